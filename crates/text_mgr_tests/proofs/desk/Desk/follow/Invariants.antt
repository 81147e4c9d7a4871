use Rattle.def_iface.specs.contracts.taken_window.TakenWindowDefined.TheImpl as taken
use Rattle.def_iface.specs.contracts.taken_window.WindowStockStocked.TheImpl as stock
use Rattle.window_mgr.specs.Whole.{IsWholeManager}
use Rattle.text_mgr.specs.WholeTexts.{AreBeside, IsSelectable}
use Rattle.text_mgr_tests.proofs.desk.Desk.follow.Given as goal

abbrev pub invariant-loop-at : goal.invariant-loop-at
invariant-loop-at g l =
    IsWholeManager (taken.loan-value g.dyn-1).it l.self.windows ((stock.slots-value g.dyn-1).it l.self.stock)
    × AreBeside (taken.loan-value g.dyn-1).it l.self.windows l.self.texts
    × IsSelectable l.self.activity l.self.texts.list.items.items
