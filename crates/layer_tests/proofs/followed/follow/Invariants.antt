use Rattle.def_iface.specs.contracts.taken_window.TakenWindowDefined.TheImpl as taken
use Rattle.def_iface.specs.contracts.taken_window.WindowStockStocked.TheImpl as stock
use Rattle.window_mgr.specs.Whole.{IsWholeManager}
use Rattle.layer_tests.proofs.followed.follow.OwnLists as own
use Rattle.layer_tests.proofs.followed.follow.Given as goal

abbrev pub invariant-loop-at : goal.invariant-loop-at
invariant-loop-at l = IsWholeManager (taken.loan-value (own.own-1, own.lawful-own-1)).it l.desk.windows ((stock.slots-value (own.own-1, own.lawful-own-1)).it l.desk.stock)

abbrev pub invariant-loop-at-2 : goal.invariant-loop-at-2
invariant-loop-at-2 l = IsWholeManager (taken.loan-value (own.own-1, own.lawful-own-1)).it l.desk.windows ((stock.slots-value (own.own-1, own.lawful-own-1)).it l.desk.stock)
