-- Controls beside windows, and their stock, seen through what boxes of definitions mean.
use Rattle.std.specs.Prelude.{List, []}
use Rattle.std.specs.declared.alloc.Global.{Global}
use Rattle.std.specs.declared.dyn_box.DynBox.{DynBox}
use Rattle.def_iface.specs.declared.control_def.ControlDef as control_def
use Rattle.def_iface.specs.declared.slots.Slots.{Slots}
use Rattle.def_iface.specs.declared.window_def.WindowDef as window_def
use Rattle.def_iface.specs.Boxed.{control_loan_by, window_loan_by}
use Rattle.def_iface.specs.Slots.{TakenBox, slots_by}
use Rattle.window_mgr.specs.declared.manager.WindowManager.{WindowManager}
use Rattle.window_mgr.specs.DeskStates.{Opened}
use Rattle.window_mgr.specs.Records.{desk_of}
use Rattle.control_mgr.specs.declared.controls.Controls.{Controls}
use Rattle.control_mgr.specs.ControlDesks.{ControlDesk, ControlRecord, ControlSlot, ControlsState}
use Rattle.control_mgr.specs.WholeControls as whole
use Rattle.control_mgr.specs.WholeControls.{AreWholeControls, LeavesControls, controls_state, records_of}

-- `control` says what a box of a control's definition means, and `window` what one of a window's
module _ {W : Type 0} {K : W → Type 0} (control : (b : DynBox W Global K) → control_def.Ghosts (K b.vtable)) where
  -- the controls as plain data
  abbrev pub records : Controls (TakenBox W K) → List ControlRecord
  records m = records_of (control_loan_by control) m

  -- the slots of their stock
  abbrev pub slots : Slots (DynBox W Global K) → List ControlSlot
  slots stock = slots_by (λ (b : DynBox W Global K). (control b).control_meaning b.value) stock

  -- their state over a stock
  abbrev pub state : Controls (TakenBox W K) → Slots (DynBox W Global K) → ControlsState
  state m stock = controls_state (control_loan_by control) m (slots stock)

  module _ {V : Type 0} {H : V → Type 0} (window : (b : DynBox V Global H) → window_def.Ghosts (H b.vtable)) where
    -- they are whole beside these windows: over a stock, and over some slots
    abbrev pub IsWhole : WindowManager V H → Controls (TakenBox W K) → Slots (DynBox W Global K) → Type 0
    IsWhole t m stock = AreWholeControls (desk_of (window_loan_by window) t []).windows (state m stock)

    abbrev pub AreBeside : WindowManager V H → Controls (TakenBox W K) → Type 0
    AreBeside t m = whole.AreBeside (control_loan_by control) (window_loan_by window) t m

    -- windows and controls are whole afterwards, and together they are such a step of the desk, whatever other layers
    -- show: over these slots of controls before and after, over a stock, and over any slots, which a call leaves alone
    abbrev pub LeavesOver : List ControlSlot → List ControlSlot → (ControlDesk → ControlDesk → Type 0)
        → WindowManager V H → Opened → Controls (TakenBox W K) → WindowManager V H → Opened → Controls (TakenBox W K) → Type 0
    LeavesOver kept left step t o m u p n =
        whole.LeavesOver (control_loan_by control) (window_loan_by window) kept left step t o m u p n

    abbrev pub LeavesStock : Slots (DynBox W Global K) → Slots (DynBox W Global K) → (ControlDesk → ControlDesk → Type 0)
        → WindowManager V H → Opened → Controls (TakenBox W K) → WindowManager V H → Opened → Controls (TakenBox W K) → Type 0
    LeavesStock old new step t o m u p n = LeavesOver (slots old) (slots new) step t o m u p n

    abbrev pub Leaves : (ControlDesk → ControlDesk → Type 0)
        → WindowManager V H → Opened → Controls (TakenBox W K) → WindowManager V H → Opened → Controls (TakenBox W K) → Type 0
    Leaves step t o m u p n = LeavesControls (control_loan_by control) (window_loan_by window) step t o m u p n
