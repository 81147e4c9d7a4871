use Rattle.def_iface.specs.ControlMeaning.{SameControlLook}
use Rattle.def_iface.specs.contracts.taken_control.TakenControlDefined.TheImpl as control
use Rattle.def_iface.specs.contracts.taken_control.ControlStockStocked.TheImpl as stock
use Rattle.window_items.specs.Items.{count_of}
use Rattle.control_mgr.proofs.Ended.{IsBeingLeft}
use Rattle.control_mgr.specs.ControlClosing.{items_state, loan_of, stage_of}
use Rattle.control_mgr.specs.WholeControls.{controls_state}
use Rattle.control_mgr.proofs.closing.Controls+TakenControl.end_of.Given as goal

abbrev pub invariant-loop-control : goal.invariant-loop-control
invariant-loop-control g l =
    let loan = (control.loan-value g.dyn-1).it in
    let slots = (stock.slots-value g.dyn-1).it in
    IsBeingLeft loan_of stage_of SameControlLook l.fn.window (items_state (controls_state loan l.fn.self (slots l.fn.stock))) (items_state (controls_state loan l.self (slots l.stock)))

abbrev pub decreases-loop-control : goal.decreases-loop-control
decreases-loop-control g l = count_of l.window l.self.list.items.items
