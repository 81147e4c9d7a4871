-- The update region of one window: another set of pixels, or drawn.
use Rattle.std.specs.Prelude.{◌≡◌, ℕ, Bool, true, false, ◌==◌, ◌&&◌, if◌then◌else◌, List, slice_index_or}
use Rattle.std.specs.Vec.{with_item}
use Rattle.tb_geom.specs.declared.point.Point.{Point}
use Rattle.tb_geom.specs.Points.{PixelSet}
use Rattle.tb_geom.specs.Pixels.{Pixels, holds}
use Rattle.def_iface.specs.Slots.{TakenBox}
use Rattle.def_iface.specs.WindowMeaning.{WindowLoan}
use Rattle.def_iface.specs.WindowSlots.{WindowSlot}
use Rattle.desk_layers.specs.Desk.{on_screen}
use Rattle.desk_layers.specs.declared.part.Part.{Part}
use Rattle.desk_layers.specs.Owner.{Owner, owner}
use Rattle.desk_layers.specs.Owner.Owner.{Content}
use Rattle.desk_layers.specs.Change.{Change, no_change, IsChanged}
use Rattle.desk_call.specs.declared.update.LayerKind.{LayerKind}
use Rattle.vis_update.specs.declared.area.Area.{Area}
use Rattle.vis_update.specs.Areas.{is_content_of}
use Rattle.window_paint.specs.Kinds.{is_of}
use Rattle.window_mgr.specs.declared.manager.WindowManager.{WindowManager}
use Rattle.window_mgr.specs.FullDesk.{FullState, layered_desk, layered_state}
use Rattle.window_mgr.specs.Records.{state_of, state_showing}
use Rattle.window_mgr.specs.Whole.{IsWholeManager}

-- of the window of this serial just these pixels are to be redrawn; all else is as it was
pub record IsRemarked (s : ℕ) (update : Pixels) (before after : FullState) : Type 0 where
  pub desk : after.desk ≡ before.desk
  pub image : after.image ≡ before.image
  pub stale : (p : Point) → on_screen (layered_desk before.desk) p ≡ true
      → after.stale p ≡ (if is_content_of s (owner (layered_desk before.desk) p) then holds update p else before.stale p)

-- the owner is a content layer of this window, one of these
abbrev pub is_of_kind : LayerKind → ℕ → Owner → Bool
is_of_kind kind s (Content t part) = t == s && is_of kind part
is_of_kind kind s _ = false

-- the change of a call that draws what is stale of these layers
abbrev pub refresh_change : (Owner → Bool) → FullState → Change
refresh_change these before = record no_change { afresh = λ o p. these o && before.stale p }

-- what was stale of these layers was drawn
pub record IsRefreshed (these : Owner → Bool) (before after : FullState) : Type 0 where
  pub desk : after.desk ≡ before.desk
  pub pixels : IsChanged (refresh_change these before) (layered_state before) (layered_state after)

-- `loan` says what a definition that was taken means
module _ {V : Type 0} {H : V → Type 0} (loan : TakenBox V H → WindowLoan) where
  -- over any slots over which the window manager is whole it is whole afterwards, and its state is such a one
  abbrev pub LeavesState : (FullState → FullState → Type 0) → WindowManager V H → WindowManager V H → Type 0
  LeavesState after old new = (slots : List WindowSlot) → IsWholeManager loan old slots
      → IsWholeManager loan new slots × after (state_of loan old slots) (state_of loan new slots)

  -- the same, where controls and lists show this
  abbrev pub LeavesShowing : (List ℕ → Part → PixelSet) → (FullState → FullState → Type 0)
      → WindowManager V H → WindowManager V H → Type 0
  LeavesShowing shows after = LeavesState (λ s u. after (state_showing shows s) (state_showing shows u))

-- the update region of the window at an index is this one, and nothing else changed
pub record IsUpdatePut {V : Type 0} {H : V → Type 0} (at : ℕ) (update : Pixels) (old new : WindowManager V H) : Type 0 where
  pub area : Area
  pub there : area ≡ slice_index_or old.areas.items at area
  pub state : new ≡ record old { areas = with_item old.areas at (record area { update = update }) }
