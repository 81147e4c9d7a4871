-- One window put elsewhere or given another size, as the code does it.
use Rattle.std.specs.Prelude.{◌≡◌, ℕ, true, List, map, Option, Result, Ok, Err}
use Rattle.tb_geom.specs.declared.point.Point.{Point}
use Rattle.tb_geom.specs.declared.refusal.Refusal.{Refusal}
use Rattle.tb_geom.specs.declared.refusal.Refusal.TheVariants.{NoMemory}
use Rattle.tb_geom.specs.Rects.{rect_holds}
use Rattle.def_iface.specs.Slots.{TakenBox}
use Rattle.def_iface.specs.WindowMeaning.{WindowLoan, IsWithin}
use Rattle.def_iface.specs.WindowSlots.{WindowSlot}
use Rattle.desk_call.specs.declared.window.WindowReply.{WindowReply}
use Rattle.desk_call.specs.declared.window.WindowReply.TheVariants.{Done}
use Rattle.window_list.specs.declared.window.Placement.{Placement}
use Rattle.window_list.specs.declared.window.Window.{Window}
use Rattle.window_list.specs.Lists.{IsPlacedAt}
use Rattle.vis_update.specs.declared.plan.Plan.{Plan}
use Rattle.vis_update.specs.Plans.{areas_then}
use Rattle.vis_update.specs.Records.{record_of}
use Rattle.window_mgr.specs.declared.manager.WindowManager.{WindowManager}
use Rattle.window_mgr.specs.Commits.{IsPlanDrawn}
use Rattle.window_mgr.specs.Edits.{IsWindowAt}
use Rattle.window_mgr.specs.Effects.{IsWindowPlaced, IsUnchanged}
use Rattle.window_mgr.specs.Records.{state_of}
use Rattle.window_mgr.specs.Refused.{may_stand}
use Rattle.window_mgr.specs.Whole.{IsWholeManager}

-- `loan` says what a definition that was taken means
module _ {V : Type 0} {H : V → Type 0} (loan : TakenBox V H → WindowLoan) where
  -- the window may lie so, and its content then lies in the box of its structure
  abbrev pub MayHave : Placement → Window V H → Type 0
  MayHave to w = let d = (loan w.taken).definition in
      (may_stand to.place to.size (record_of loan w) ≡ true) × IsWithin (d.content to.size) (rect_holds (d.bounds to.size))

  -- so may the window at this place of the list
  abbrev pub IsPlaceableAt : ℕ → Placement → List (Window V H) → Type 0
  IsPlaceableAt i to ws = (w : Window V H) → IsWindowAt ws i w → MayHave to w

  -- the window at this place of the list lies so, its definition was told its size, and the plan was drawn
  pub record IsPlacementCommitted (i : ℕ) (to : Placement) (plan : Plan) (by : Option Point)
      (old new : WindowManager V H) : Type 0 where
    pub window : Window V H
    pub at : IsWindowAt old.windows.records.items i window
    pub lies : IsPlacedAt loan i to window old.windows.records.items new.windows.records.items
    pub drawn : IsPlanDrawn plan by old.font (map (record_of loan) new.windows.records.items) old.screen new.screen
    pub areas : new.areas.items ≡ areas_then old.areas.items plan.areas.items
    pub desktop : new.desktop ≡ plan.desktop
    pub bar : new.bar ≡ old.bar
    pub font : new.font ≡ old.font
    pub gray : new.gray ≡ old.gray
    pub active : new.windows.active ≡ old.windows.active
    pub next : new.windows.next ≡ old.windows.next

  -- what a call that puts the window at this place of the list there answers and leaves
  abbrev pub IsLaid : ℕ → Placement → Option Point → Result WindowReply Refusal → WindowManager V H → WindowManager V H
      → List WindowSlot → Type 0
  IsLaid i to by (Ok answer) old new slots = (answer ≡ Done) × ((w : Window V H) → IsWindowAt old.windows.records.items i w
      → IsWindowPlaced (record { window = w.serial; by = by; to = to }) (state_of loan old slots) (state_of loan new slots))
  IsLaid i to by (Err refusal) old new slots =
      (refusal ≡ NoMemory) × IsUnchanged (state_of loan old slots) (state_of loan new slots)

  -- over any slots over which the window manager is whole, it is whole after such a call
  abbrev pub IsLaidOverAnySlots : ℕ → Placement → Option Point → Result WindowReply Refusal → WindowManager V H
      → WindowManager V H → Type 0
  IsLaidOverAnySlots i to by result old new = (slots : List WindowSlot) → IsWholeManager loan old slots
      → IsWholeManager loan new slots × IsLaid i to by result old new slots
