use Rattle.def_iface.specs.contracts.taken_window.TakenWindowDefined.TheImpl as taken
use Rattle.def_iface.specs.contracts.taken_window.WindowStockStocked.TheImpl as stock
use Rattle.window_mgr.specs.Whole.{IsWholeManager}
use Rattle.window_update.specs.WholeUpdates.{IsWholeUpdates}
use Rattle.layer_steps.proofs.steps.Desk.update.Given as goal

abbrev pub invariant-loop-at : goal.invariant-loop-at
invariant-loop-at g l =
    IsWholeManager (taken.loan-value g.dyn-1).it l.self.windows ((stock.slots-value g.dyn-1).it l.self.stock)
    × IsWholeUpdates (taken.loan-value g.dyn-1).it l.activity l.self.windows l.updates
