-- A call, by what it asks.
use Rattle.std.proofs.Common.{◌≡◌, List, Result, sym, subst}
use Rattle.tb_geom.specs.declared.refusal.Refusal.{Refusal}
use Rattle.tb_geom.specs.Points.{PixelSet}
use Rattle.def_iface.specs.Slots.{TakenBox}
use Rattle.def_iface.specs.ControlMeaning.{ControlLoan}
use Rattle.def_iface.specs.WindowMeaning.{WindowLoan}
use Rattle.desk_call.specs.declared.activity.Activity.{Activity}
use Rattle.desk_call.specs.declared.control.ControlCall.{ControlCall}
use Rattle.desk_call.specs.declared.control.ControlReply.{ControlReply}
use Rattle.window_mgr.specs.declared.manager.WindowManager.{WindowManager}
use Rattle.window_mgr.specs.DeskStates.{Opened}
use Rattle.control_mgr.specs.declared.controls.Controls.{Controls}
use Rattle.control_mgr.specs.ControlDesks.{ControlSlot}
use Rattle.control_mgr.specs.ControlSteps.{IsControlStep}
use Rattle.control_mgr.specs.Damages.{IsWhereRight}
use Rattle.control_mgr.specs.Spots.{opened}
use Rattle.control_mgr.specs.WholeControls.{LeavesOver}
use Rattle.control_mgr.proofs.Steps.{where_right}

module _ {V : Type 0} {H : V → Type 0} (loan : TakenBox V H → WindowLoan) {W : Type 0} {K : W → Type 0} (control_loan : TakenBox W K → ControlLoan) where
  -- a step that is made, also where the screen is not right
  pub asked_by : (call asked : ControlCall) (result : Result ControlReply Refusal) (kept left : List ControlSlot) (t u : WindowManager V H) (m n : Controls (TakenBox W K)) (o r : Opened) → call ≡ asked
      → LeavesOver control_loan loan kept left (IsControlStep asked result) t o m u r n → LeavesOver control_loan loan kept left (IsWhereRight (IsControlStep call result)) t o m u r n
  asked_by call asked result kept left t u m n o r is leaves =
      where_right loan control_loan (IsControlStep call result) kept left t u m n o r (subst (λ x. LeavesOver control_loan loan kept left (IsControlStep x result) t o m u r n) (sym is) leaves)

  pub by_call : (call asked : ControlCall) (result : Result ControlReply Refusal) (kept left : List ControlSlot) (t u : WindowManager V H) (m n : Controls (TakenBox W K)) (o r : Opened) → call ≡ asked
      → LeavesOver control_loan loan kept left (IsWhereRight (IsControlStep asked result)) t o m u r n → LeavesOver control_loan loan kept left (IsWhereRight (IsControlStep call result)) t o m u r n
  by_call call asked result kept left t u m n o r is leaves = subst (λ x. LeavesOver control_loan loan kept left (IsWhereRight (IsControlStep x result)) t o m u r n) (sym is) leaves

  -- while this stays open
  pub while_open : (call asked : ControlCall) (result : Result ControlReply Refusal) (kept : List ControlSlot) (t u : WindowManager V H) (m n : Controls (TakenBox W K)) (a b : Activity) (begun : PixelSet) → call ≡ asked → a ≡ b
      → LeavesOver control_loan loan kept kept (IsWhereRight (IsControlStep asked result)) t (opened b begun) m u (opened b begun) n → LeavesOver control_loan loan kept kept (IsWhereRight (IsControlStep call result)) t (opened a begun) m u (opened a begun) n
  while_open call asked result kept t u m n a b begun is stays leaves =
      by_call call asked result kept kept t u m n (opened a begun) (opened a begun) is
      (subst (λ x. LeavesOver control_loan loan kept kept (IsWhereRight (IsControlStep asked result)) t (opened x begun) m u (opened x begun) n) (sym stays) leaves)
