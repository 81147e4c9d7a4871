use Rattle.def_iface.specs.ListMeaning.{SameListLook}
use Rattle.def_iface.specs.contracts.taken_list.TakenListDefined.TheImpl as list
use Rattle.def_iface.specs.contracts.taken_list.ListStockStocked.TheImpl as stock
use Rattle.window_items.specs.Items.{count_of}
use Rattle.control_mgr.proofs.Ended.{IsBeingLeft}
use Rattle.list_mgr.specs.ListClosing.{items_state, loan_of, stage_of}
use Rattle.list_mgr.specs.WholeLists.{lists_state}
use Rattle.list_mgr.proofs.ending.Lists+TakenList.end_of.Given as goal

abbrev pub invariant-loop-list : goal.invariant-loop-list
invariant-loop-list g l =
    let loan = (list.loan-value g.dyn-1).it in
    let slots = (stock.slots-value g.dyn-1).it in
    IsBeingLeft loan_of stage_of SameListLook l.fn.window (items_state (lists_state loan l.fn.self (slots l.fn.stock))) (items_state (lists_state loan l.self (slots l.stock)))

abbrev pub decreases-loop-list : goal.decreases-loop-list
decreases-loop-list g l = count_of l.window l.self.list.items.items
