use Rattle.std.proofs.Common.{refl, sym, ◌∙◌}
use Rattle.def_iface.specs.contracts.stock.StockStockedAll.TheImpl as stock
use Rattle.script_runner.proofs.FormFaults.{known_so, over}
use Rattle.script_runner.proofs.session.is_known.Goals as goal

pub returns-in-Call : goal.returns-in-Call
returns-in-Call g c =
    let stocks = (stock.all_slots-value g.dyn-1 g.dyn-2 g.dyn-3 g.dyn-4).it c.args.stock.now in
    let form = c.form_refusal_of.ensures (over stocks) refl refl refl refl in
    rw c.in-Call.is (c.ne.ensures ∙ sym (known_so c.in-Call.call stocks c.form_refusal_of.result form))
