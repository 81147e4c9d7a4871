use Rattle.std.proofs.Common.{◌≡◌, false, []}
use Rattle.def_iface.specs.contracts.stock.StockStockedAll.TheImpl as stock
use Rattle.def_iface.specs.contracts.taken_window.TakenWindowDefined.TheImpl as taken
use Rattle.def_iface.specs.contracts.taken_control.TakenControlDefined.TheImpl as taken_control
use Rattle.def_iface.specs.contracts.taken_list.TakenListDefined.TheImpl as taken_list
use Rattle.def_iface.specs.contracts.taken_menu.TakenMenuDefined.TheImpl as taken_menu
use Rattle.script_runner.specs.SessionViews.{script_of, IsReady}
use Rattle.script_runner.specs.Progress.{SoFar}
use Rattle.script_runner.specs.Writers.{IsSameWriter}
use Rattle.script_runner.proofs.runner.answer_all.Given as goal

abbrev pub invariant-loop-read : goal.invariant-loop-read
invariant-loop-read g l =
    let loan = (taken.loan-value g.dyn-1).it in
    let menu_loan = (taken_menu.loan-value g.dyn-3).it in
    let control_loan = (taken_control.loan-value g.dyn-2).it in
    let list_loan = (taken_list.loan-value g.dyn-4).it in
    let stocks = (stock.all_slots-value g.dyn-1 g.dyn-2 g.dyn-4 g.dyn-3).it in
    record {
      ready : IsReady loan menu_loan control_loan list_loan l.script.session (stocks l.stock);
      quiet : (g.W.Sink.output l.writer.sink.now).has_failed ≡ false;
      same : IsSameWriter l.fn.writer l.writer;
      so_far : SoFar l.fn.writer.raw (script_of loan menu_loan control_loan list_loan l.fn.script (stocks l.fn.stock)) (g.R.Source.input l.fn.source) (g.W.Sink.output l.fn.writer.sink.now) (g.R.Source.input l.source) (g.W.Sink.output l.writer.sink.now) (script_of loan menu_loan control_loan list_loan l.script (stocks l.stock)) l.line [];
      counted : (g.R.Source.input l.source).reads ≡ l.read;
    }
