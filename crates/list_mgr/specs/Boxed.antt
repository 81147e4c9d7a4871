-- Lists beside windows and controls, and their stock, seen through what boxes of definitions mean.
use Rattle.std.specs.Prelude.{List, []}
use Rattle.std.specs.declared.alloc.Global.{Global}
use Rattle.std.specs.declared.dyn_box.DynBox.{DynBox}
use Rattle.def_iface.specs.declared.control_def.ControlDef as control_def
use Rattle.def_iface.specs.declared.list_def.ListDef as list_def
use Rattle.def_iface.specs.declared.slots.Slots.{Slots}
use Rattle.def_iface.specs.declared.window_def.WindowDef as window_def
use Rattle.def_iface.specs.Boxed.{control_loan_by, list_loan_by, window_loan_by}
use Rattle.def_iface.specs.Slots.{TakenBox, slots_by}
use Rattle.window_mgr.specs.declared.manager.WindowManager.{WindowManager}
use Rattle.window_mgr.specs.Records.{desk_of}
use Rattle.control_mgr.specs.declared.controls.Controls.{Controls}
use Rattle.control_mgr.specs.Boxed as controls
use Rattle.control_mgr.specs.ControlDesks.{ControlSlot}
use Rattle.list_mgr.specs.declared.lists.Lists.{Lists}
use Rattle.list_mgr.specs.ListDesks.{KeptList, ListDesk, ListSlot, ListsState}
use Rattle.list_mgr.specs.WholeLists as whole
use Rattle.list_mgr.specs.WholeLists.{AreWholeLists, IsChangedOver, IsToldOver, LeavesLists, lists_state, records_of}

-- `list` says what a box of a list's definition means, `window` what one of a window's, and `control` what one of a control's
module _ {X : Type 0} {L : X → Type 0} (list : (b : DynBox X Global L) → list_def.Ghosts (L b.vtable)) where
  -- the lists as plain data
  abbrev pub records : Lists (TakenBox X L) → List KeptList
  records m = records_of (list_loan_by list) m

  -- the slots of their stock
  abbrev pub slots : Slots (DynBox X Global L) → List ListSlot
  slots stock = slots_by (λ (b : DynBox X Global L). (list b).list_meaning b.value) stock

  -- their state over a stock
  abbrev pub state : Lists (TakenBox X L) → Slots (DynBox X Global L) → ListsState
  state m stock = lists_state (list_loan_by list) m (slots stock)

  module _ {V : Type 0} {H : V → Type 0} (window : (b : DynBox V Global H) → window_def.Ghosts (H b.vtable)) where
    -- they are whole beside these windows: over a stock, and over some slots
    abbrev pub IsWhole : WindowManager V H → Lists (TakenBox X L) → Slots (DynBox X Global L) → Type 0
    IsWhole t m stock = AreWholeLists (desk_of (window_loan_by window) t []).windows (state m stock)

    abbrev pub AreBeside : WindowManager V H → Lists (TakenBox X L) → Type 0
    AreBeside t m = whole.AreBeside (list_loan_by list) (window_loan_by window) t m

    -- a call that asks something, and one that leaves the windows' records, controls and stocks
    abbrev pub Tells : (ListDesk → ListDesk → Type 0) → WindowManager V H → Lists (TakenBox X L) → Type 0
    Tells step t m = IsToldOver (list_loan_by list) (window_loan_by window) step t m

    abbrev pub Changes : (ListDesk → ListDesk → Type 0)
        → WindowManager V H → Lists (TakenBox X L) → WindowManager V H → Lists (TakenBox X L) → Type 0
    Changes step t m u n = IsChangedOver (list_loan_by list) (window_loan_by window) step t m u n

    module _ {W : Type 0} {K : W → Type 0} (control : (b : DynBox W Global K) → control_def.Ghosts (K b.vtable)) where
      -- windows, controls and lists are whole afterwards, and together they are such a step of the desk: over these slots
      -- of controls and lists before and after, over stocks, and over any slots, which a call leaves alone
      abbrev pub LeavesOver : List ControlSlot → List ControlSlot → List ListSlot → List ListSlot → (ListDesk → ListDesk → Type 0)
          → WindowManager V H → Controls (TakenBox W K) → Lists (TakenBox X L)
          → WindowManager V H → Controls (TakenBox W K) → Lists (TakenBox X L) → Type 0
      LeavesOver held left kept rest step t c m u d n =
          whole.LeavesOver (list_loan_by list) (window_loan_by window) (control_loan_by control) held left kept rest step t c m u d n

      abbrev pub LeavesStocks : Slots (DynBox W Global K) → Slots (DynBox W Global K)
          → Slots (DynBox X Global L) → Slots (DynBox X Global L) → (ListDesk → ListDesk → Type 0)
          → WindowManager V H → Controls (TakenBox W K) → Lists (TakenBox X L)
          → WindowManager V H → Controls (TakenBox W K) → Lists (TakenBox X L) → Type 0
      LeavesStocks held left kept rest step t c m u d n =
          LeavesOver (controls.slots control held) (controls.slots control left) (slots kept) (slots rest) step t c m u d n

      abbrev pub Leaves : (ListDesk → ListDesk → Type 0)
          → WindowManager V H → Controls (TakenBox W K) → Lists (TakenBox X L)
          → WindowManager V H → Controls (TakenBox W K) → Lists (TakenBox X L) → Type 0
      Leaves step t c m u d n =
          LeavesLists (list_loan_by list) (window_loan_by window) (control_loan_by control) step t c m u d n
