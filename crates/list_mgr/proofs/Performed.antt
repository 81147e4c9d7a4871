-- Calls that leave the stocks, or also controls, are steps over all stocks.
use Rattle.std.proofs.Common.{List, sym, subst}
use Rattle.def_iface.specs.Slots.{TakenBox}
use Rattle.def_iface.specs.ControlMeaning.{ControlLoan}
use Rattle.def_iface.specs.ListMeaning.{ListLoan}
use Rattle.def_iface.specs.WindowMeaning.{WindowLoan}
use Rattle.vis_update.specs.Records.{WindowRecord}
use Rattle.window_mgr.specs.declared.manager.WindowManager.{WindowManager}
use Rattle.control_mgr.specs.declared.controls.Controls.{Controls}
use Rattle.control_mgr.specs.ControlDesks.{ControlSlot}
use Rattle.control_mgr.specs.WholeControls.{AreWholeControls, controls_state}
use Rattle.list_mgr.specs.declared.lists.Lists.{Lists}
use Rattle.list_mgr.specs.ListDesks.{ListDesk, ListSlot}
use Rattle.list_mgr.specs.WholeLists.{IsChangedOver, IsToldOver, LeavesOver}
use Rattle.list_mgr.specs.Within.{IsWhereRight}

module _ {V : Type 0} {H : V → Type 0} (loan : TakenBox V H → WindowLoan) {W : Type 0} {K : W → Type 0} (control_loan : TakenBox W K → ControlLoan) {X : Type 0} {L : X → Type 0} (list_loan : TakenBox X L → ListLoan)
    (step : ListDesk → ListDesk → Type 0) (held : List ControlSlot) (kept : List ListSlot) where
  -- a call that leaves the windows, the controls and the lists such a step, also where the screen was right
  pub made_right : (left : List ControlSlot) (rest : List ListSlot) (t u : WindowManager V H) (c d : Controls (TakenBox W K)) (m n : Lists (TakenBox X L)) → LeavesOver list_loan loan control_loan held left kept rest step t c m u d n
      → LeavesOver list_loan loan control_loan held left kept rest (IsWhereRight step) t c m u d n
  made_right left rest t u c d m n leaves others o slots windows controls lists =
      let its = leaves others o slots windows controls lists in
      (its.0, its.1, its.2, λ right. its.3)

  -- a call that asks something
  pub told_leaves : (t : WindowManager V H) (c : Controls (TakenBox W K)) (m : Lists (TakenBox X L)) → IsToldOver list_loan loan step t m → LeavesOver list_loan loan control_loan held held kept kept (IsWhereRight step) t c m t c m
  told_leaves t c m told others o slots windows controls lists = (windows, controls, lists, λ right. told others o slots (controls_state control_loan c held) kept windows lists)

  -- a call that changes lists and the pixels of windows alone
  pub changed_leaves : (t u : WindowManager V H) (c : Controls (TakenBox W K)) (m n : Lists (TakenBox X L)) → IsChangedOver list_loan loan step t m u n → LeavesOver list_loan loan control_loan held held kept kept step t c m u c n
  changed_leaves t u c m n changed others o slots windows controls lists =
      let its = changed others o slots (controls_state control_loan c held) kept windows lists in
      (its.0, subst (λ (ws : List WindowRecord). AreWholeControls ws (controls_state control_loan c held)) (sym its.1) controls, its.2, its.3)

  -- so a call that changes them whether or not the screen was right
  pub changed_right : (t u : WindowManager V H) (c : Controls (TakenBox W K)) (m n : Lists (TakenBox X L)) → IsChangedOver list_loan loan step t m u n → LeavesOver list_loan loan control_loan held held kept kept (IsWhereRight step) t c m u c n
  changed_right t u c m n changed = made_right held kept t u c c m n (changed_leaves t u c m n changed)
