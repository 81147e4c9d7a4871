use Rattle.std.proofs.Common.{length}
use Rattle.def_iface.specs.ListMeaning.{SameListLook}
use Rattle.def_iface.specs.contracts.taken_list.TakenListDefined.TheImpl as list
use Rattle.def_iface.specs.contracts.taken_list.ListStockStocked.TheImpl as stock
use Rattle.control_mgr.proofs.Ended.{AreBeingEnded}
use Rattle.list_mgr.specs.ListClosing.{loan_of, stage_of}
use Rattle.list_mgr.specs.Seen.{all_seen}
use Rattle.list_mgr.proofs.ending.Lists+TakenList.close.Given as goal

abbrev pub invariant-loop-list : goal.invariant-loop-list
invariant-loop-list g l =
    let loan = (list.loan-value g.dyn-1).it in
    let slots = (stock.slots-value g.dyn-1).it in
    AreBeingEnded loan_of stage_of SameListLook (all_seen loan l.fn.self.list.items.items) (all_seen loan l.lists.items) (slots l.fn.stock) (slots l.stock)

abbrev pub decreases-loop-list : goal.decreases-loop-list
decreases-loop-list g l = length l.lists.items
