-- A desk at which something may be open between its begin and its end.
use Rattle.std.specs.Prelude.{◌≡◌, ℕ, ◌==◌, Bool, false, if◌then◌else◌, Option, None, Some, List}
use Rattle.tb_geom.specs.Points.{PixelSet}
use Rattle.desk_layers.specs.declared.part.Part.{Part}
use Rattle.def_iface.specs.Slots.{TakenBox}
use Rattle.def_iface.specs.WindowMeaning.{WindowLoan}
use Rattle.def_iface.specs.WindowSlots.{WindowSlot}
use Rattle.desk_call.specs.declared.activity.Activity.{Activity}
use Rattle.desk_call.specs.declared.activity.Activity.TheVariants.{Updating}
use Rattle.desk_call.specs.declared.nature.Asked.{Asked}
use Rattle.desk_call.specs.declared.nature.Asked.TheVariants.{VisibleRegion, UpdateRegion}
use Rattle.desk_call.specs.declared.window.WindowCall.{WindowCall}
use Rattle.desk_call.specs.Natures.{window_asks}
use Rattle.window_mgr.specs.declared.manager.WindowManager.{WindowManager}
use Rattle.window_mgr.specs.FullDesk.{FullState}
use Rattle.window_mgr.specs.Effects as windows
use Rattle.window_mgr.specs.Records.{state_of}
use Rattle.window_mgr.specs.Updating.{LeavesState, LeavesShowing}

-- what is open, and, while that is an update, what was to be redrawn when it began, as its window sees it
pub record Opened : Type 0 where
  pub activity : Activity
  pub begun : PixelSet

-- the windows, what is open, and what was to be redrawn when it began
pub record DeskState : Type 0 where
  pub windows : FullState
  pub activity : Activity
  pub begun : PixelSet

-- nothing changed
pub record IsDeskUnchanged (before after : DeskState) : Type 0 where
  pub windows : windows.IsUnchanged before.windows after.windows
  pub activity : after.activity ≡ before.activity
  pub begun : after.begun ≡ before.begun

-- what is open is as it was
pub record SameActivity (before after : DeskState) : Type 0 where
  pub activity : after.activity ≡ before.activity
  pub begun : after.begun ≡ before.begun

-- this window's update is open
abbrev pub is_updating : ℕ → Activity → Bool
is_updating s (Updating t) = t == s
is_updating s _ = false

-- while a window's update is open its visible region is what was to be redrawn when it began, and its update region is
-- empty; which of them is asked for, if one is
abbrev pub narrowed_to : Asked → Activity → PixelSet → Option PixelSet
narrowed_to (VisibleRegion s) activity begun = if is_updating s activity then Some begun else None
narrowed_to (UpdateRegion s) activity begun = if is_updating s activity then Some (λ p. false) else None
narrowed_to _ activity begun = None

abbrev pub narrowed : WindowCall → Activity → PixelSet → Option PixelSet
narrowed call = narrowed_to (window_asks call)

-- windows at which this is open
abbrev pub desk_with : Opened → FullState → DeskState
desk_with o windows = record { windows = windows; activity = o.activity; begun = o.begun }

-- `loan` says what a definition that was taken means
module _ {V : Type 0} {H : V → Type 0} (loan : TakenBox V H → WindowLoan) where
  abbrev pub desk_state : WindowManager V H → Opened → List WindowSlot → DeskState
  desk_state t o slots = desk_with o (state_of loan t slots)

  -- over any slots over which the window manager is whole it is whole afterwards, and what it is with what is open is such
  -- a step of the desk
  abbrev pub LeavesDesk : (DeskState → DeskState → Type 0) → WindowManager V H → Opened → WindowManager V H → Opened → Type 0
  LeavesDesk step old before new after = LeavesState loan (λ s u. step (desk_with before s) (desk_with after u)) old new

  -- the same, where controls and lists show this
  abbrev pub LeavesDeskShowing : (List ℕ → Part → PixelSet) → (DeskState → DeskState → Type 0)
      → WindowManager V H → Opened → WindowManager V H → Opened → Type 0
  LeavesDeskShowing shows step old before new after =
      LeavesShowing loan shows (λ s u. step (desk_with before s) (desk_with after u)) old new
