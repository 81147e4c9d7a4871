use Rattle.std.proofs.Common.{length, map}
use Rattle.def_iface.specs.contracts.taken_window.TakenWindowDefined.TheImpl as taken
use Rattle.def_iface.specs.contracts.taken_window.WindowStockStocked.TheImpl as stock
use Rattle.vis_update.specs.Records.{record_of}
use Rattle.window_mgr.proofs.ClosingLemmas.{IsUnderWay}
use Rattle.window_mgr.proofs.close.put_all_away.Given as goal

abbrev pub invariant-loop-taken : goal.invariant-loop-taken
invariant-loop-taken g l =
    let loan = (taken.loan-value g.dyn-1).it in
    let slots = (stock.slots-value g.dyn-1).it in
    IsUnderWay (map (record_of loan) l.fn.windows.records.items) (map (record_of loan) l.windows.records.items) (slots l.fn.stock) (slots l.stock)

abbrev pub decreases-loop-taken : goal.decreases-loop-taken
decreases-loop-taken g l = length l.windows.records.items
