use Rattle.std.proofs.Common.{sym, ◌∙◌, SFits, w32, rules}
use Rattle.std.proofs.lemmas.Int.{to_z-of_z}
use Rattle.def_iface.specs.contracts.stock.StockStockedAll.TheImpl as stock
use Rattle.def_iface.specs.contracts.taken_window.TakenWindowDefined.TheImpl as taken
use Rattle.def_iface.specs.contracts.taken_control.TakenControlDefined.TheImpl as taken_control
use Rattle.def_iface.specs.contracts.taken_list.TakenListDefined.TheImpl as taken_list
use Rattle.def_iface.specs.contracts.taken_menu.TakenMenuDefined.TheImpl as taken_menu
use Rattle.script_runner.specs.SessionViews.{script_of}
use Rattle.script_runner.proofs.Taken.{asked_so, none_of}
use Rattle.script_runner.proofs.script.Script.take.Goals as goal

pub returns-clause-ends : goal.returns-clause-ends
returns-clause-ends g c =
    let loan = (taken.loan-value g.dyn-1).it in
    let menu_loan = (taken_menu.loan-value g.dyn-3).it in
    let control_loan = (taken_control.loan-value g.dyn-2).it in
    let list_loan = (taken_list.loan-value g.dyn-4).it in
    let stocks = (stock.all_slots-value g.dyn-1 g.dyn-2 g.dyn-4 g.dyn-3).it in
    let fits : SFits w32 c.args.self.now.version = search rules in
    let unread = simp to_z-of_z at c.why_unread-refusal.ensures in
    asked_so c.args.writer.now.raw (script_of loan menu_loan control_loan list_loan c.args.self.now (stocks c.args.stock.now)) c.args.command.now _ _ _ c.obey.result
    c.in_default-command.not-Version (sym unread ∙ none_of c.why_unread-refusal.result c.in_default.not-Some) c.obey.ensures.ends
