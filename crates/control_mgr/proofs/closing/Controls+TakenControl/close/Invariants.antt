use Rattle.std.proofs.Common.{length}
use Rattle.def_iface.specs.ControlMeaning.{SameControlLook}
use Rattle.def_iface.specs.contracts.taken_control.TakenControlDefined.TheImpl as control
use Rattle.def_iface.specs.contracts.taken_control.ControlStockStocked.TheImpl as stock
use Rattle.control_mgr.proofs.Ended.{AreBeingEnded}
use Rattle.control_mgr.specs.ControlClosing.{loan_of, stage_of}
use Rattle.control_mgr.specs.Seen.{all_seen}
use Rattle.control_mgr.proofs.closing.Controls+TakenControl.close.Given as goal

abbrev pub invariant-loop-control : goal.invariant-loop-control
invariant-loop-control g l =
    let loan = (control.loan-value g.dyn-1).it in
    let slots = (stock.slots-value g.dyn-1).it in
    AreBeingEnded loan_of stage_of SameControlLook (all_seen loan l.fn.self.list.items.items) (all_seen loan l.controls.items) (slots l.fn.stock) (slots l.stock)

abbrev pub decreases-loop-control : goal.decreases-loop-control
decreases-loop-control g l = length l.controls.items
