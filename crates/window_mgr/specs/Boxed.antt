-- A window manager and its stock, seen through what boxes of definitions mean.
use Rattle.std.specs.Prelude.{ℕ, ℤ, List}
use Rattle.std.specs.declared.alloc.Global.{Global}
use Rattle.std.specs.declared.dyn_box.DynBox.{DynBox}
use Rattle.tb_geom.specs.Points.{PixelSet}
use Rattle.desk_layers.specs.declared.part.Part.{Part}
use Rattle.def_iface.specs.declared.slots.Slots.{Slots}
use Rattle.def_iface.specs.declared.window_def.WindowDef as window_def
use Rattle.def_iface.specs.Boxed.{window_loan_by}
use Rattle.def_iface.specs.Slots.{slots_by}
use Rattle.def_iface.specs.WindowSlots.{WindowSlot}
use Rattle.window_mgr.specs.declared.manager.WindowManager.{WindowManager}
use Rattle.window_mgr.specs.Begin.{IsEmptyDesk}
use Rattle.window_mgr.specs.DeskStates as desks
use Rattle.window_mgr.specs.DeskStates.{DeskState, Opened}
use Rattle.window_mgr.specs.FullDesk.{FullDesk, FullState}
use Rattle.window_mgr.specs.Kept as kept
use Rattle.window_mgr.specs.Records.{desk_of, state_of}
use Rattle.window_mgr.specs.Updating as states
use Rattle.window_mgr.specs.Whole.{IsWholeManager}

-- `window` says what a box of a window's definition means
module _ {V : Type 0} {H : V → Type 0} (window : (b : DynBox V Global H) → window_def.Ghosts (H b.vtable)) where
  -- a window manager over slots: its desk, its state, and that it is whole
  abbrev pub desk : WindowManager V H → List WindowSlot → FullDesk
  desk t slots = desk_of (window_loan_by window) t slots

  abbrev pub state_over : WindowManager V H → List WindowSlot → FullState
  state_over t slots = state_of (window_loan_by window) t slots

  abbrev pub IsWholeOver : WindowManager V H → List WindowSlot → Type 0
  IsWholeOver t slots = IsWholeManager (window_loan_by window) t slots

  -- it is whole over some slots
  abbrev pub IsKept : WindowManager V H → Type 0
  IsKept t = kept.IsKept (window_loan_by window) t

  -- it is a new desk: of these sides, with a menu bar of these rows and in this font, over slots
  abbrev pub IsEmpty : ℤ → ℤ → ℤ → List ℕ → WindowManager V H → List WindowSlot → Type 0
  IsEmpty width height bar font t slots = IsEmptyDesk (window_loan_by window) width height bar font t slots

  -- its state over a stock, and that it is whole
  abbrev pub state : WindowManager V H → Slots (DynBox V Global H) → FullState
  state t stock = state_over t (slots_by (λ (b : DynBox V Global H). (window b).meaning b.value) stock)

  abbrev pub IsWhole : WindowManager V H → Slots (DynBox V Global H) → Type 0
  IsWhole t stock = IsWholeOver t (slots_by (λ (b : DynBox V Global H). (window b).meaning b.value) stock)

  -- over any slots over which it is whole it is whole afterwards, and its states are such ones; the same where controls
  -- and lists show this
  abbrev pub LeavesState : (FullState → FullState → Type 0) → WindowManager V H → WindowManager V H → Type 0
  LeavesState step old new = states.LeavesState (window_loan_by window) step old new

  abbrev pub LeavesShowing : (List ℕ → Part → PixelSet) → (FullState → FullState → Type 0)
      → WindowManager V H → WindowManager V H → Type 0
  LeavesShowing shows step old new = states.LeavesShowing (window_loan_by window) shows step old new

  -- the same two of the windows with what is open
  abbrev pub LeavesDesk : (DeskState → DeskState → Type 0) → WindowManager V H → Opened → WindowManager V H → Opened → Type 0
  LeavesDesk step old before new after = desks.LeavesDesk (window_loan_by window) step old before new after

  abbrev pub LeavesDeskShowing : (List ℕ → Part → PixelSet) → (DeskState → DeskState → Type 0)
      → WindowManager V H → Opened → WindowManager V H → Opened → Type 0
  LeavesDeskShowing shows step old before new after = desks.LeavesDeskShowing (window_loan_by window) shows step old before new after
