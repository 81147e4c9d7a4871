use Rattle.std.proofs.Common.{refl}
use Rattle.def_iface.specs.contracts.stock.StockStockedAll.TheImpl as stock
use Rattle.script_runner.proofs.StockKinds.{kinds_stay}
use Rattle.script_runner.proofs.runner.run.Goals as goal

pub returns-clause-kinds : goal.returns-clause-kinds
returns-clause-kinds g c =
    kinds_stay c.args.raw c.args.check _ _ _ _ _ _ c.in_ok-font.font ((stock.all_slots-value g.dyn-1 g.dyn-2 g.dyn-3 g.dyn-4).it c.args.stock.now) _ c.answer_and_check-outcome.result
    (rw (c.new-script.ensures.unmade, c.new-script.ensures.font, c.new-script.ensures.version, c.new-script.ensures.unbegun) refl) c.answer_and_check-outcome.ensures.ends c.close.ensures.left
