-- Pixels marked in an update region, as the code does it.
use Rattle.std.specs.Prelude.{◌≡◌, ℕ, Bool, not, ◌&&◌, ◌||◌, slice_index_or, Result, Ok, Err}
use Rattle.tb_geom.specs.declared.point.Point.{Point}
use Rattle.tb_geom.specs.declared.refusal.Refusal.{Refusal}
use Rattle.tb_geom.specs.declared.refusal.Refusal.TheVariants.{NoMemory}
use Rattle.tb_geom.specs.Points.{PixelSet, minus}
use Rattle.tb_geom.specs.Pixels.{Pixels, holds}
use Rattle.def_iface.specs.Slots.{TakenBox}
use Rattle.def_iface.specs.WindowMeaning.{WindowLoan}
use Rattle.desk_call.specs.declared.update.AreaRef.{AreaRef}
use Rattle.desk_call.specs.declared.window.WindowReply.{WindowReply}
use Rattle.desk_call.specs.declared.window.WindowReply.TheVariants.{Done}
use Rattle.vis_update.specs.declared.area.Area.{Area}
use Rattle.window_list.specs.declared.window.Window.{Window}
use Rattle.window_mgr.specs.declared.manager.WindowManager.{WindowManager}
use Rattle.window_mgr.specs.Edits.{IsWindowAt}
use Rattle.window_mgr.specs.Updating.{LeavesState, IsRemarked}
use Rattle.window_update.specs.declared.marking.Verdict.{Verdict}
use Rattle.window_update.specs.declared.marking.Verdict.TheVariants.{Stale, Right}
use Rattle.window_update.specs.Sets.{IsAreaOf}

-- what a mark makes of a pixel of an update region, which lies in what is marked or not
abbrev pub marked_by : Verdict → Bool → Bool → Bool
marked_by Stale stale within = stale || within
marked_by Right stale within = stale && not within

module _ {V : Type 0} {H : V → Type 0} where
  -- the region is the update region of the window at this place, once the area is marked
  abbrev pub IsUpdateAfter : WindowManager V H → ℕ → AreaRef → Verdict → Pixels → Type 0
  IsUpdateAfter t at area mark update = (set : PixelSet) × IsAreaOf area set
      × ((w : Window V H) (a : Area) → IsWindowAt t.windows.records.items at w → a ≡ slice_index_or t.areas.items at a
      → (p : Point) → holds update p ≡ marked_by mark (holds a.update p) (holds a.visible p && set (minus p w.place)))

-- `loan` says what a definition that was taken means
module _ {V : Type 0} {H : V → Type 0} (loan : TakenBox V H → WindowLoan) where
  -- an area of the window at this place was marked, or there was no memory and nothing changed
  abbrev pub IsMarkedBy : Verdict → ℕ → AreaRef → Result WindowReply Refusal → WindowManager V H → WindowManager V H → Type 0
  IsMarkedBy mark at area (Ok answer) old new = (answer ≡ Done) × ((update : Pixels) × IsUpdateAfter old at area mark update
      × ((w : Window V H) → IsWindowAt old.windows.records.items at w → LeavesState loan (IsRemarked w.serial update) old new))
  IsMarkedBy mark at area (Err e) old new = (e ≡ NoMemory) × (new ≡ old)
