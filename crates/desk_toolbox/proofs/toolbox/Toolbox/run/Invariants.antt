use Rattle.std.proofs.Common.{take, length, ◌≡◌, ◌≤◌}
use Rattle.desk_toolbox.specs.EconomicalRuns.{IsEconomicalRun}
use Rattle.desk_toolbox.specs.Run.{IsRunOfCalls}
use Rattle.desk_toolbox.specs.WholeToolbox.{IsWholeToolbox, toolbox_state}
use Rattle.def_iface.specs.contracts.stock.StockStockedAll.TheImpl as stock
use Rattle.def_iface.specs.contracts.taken_window.TakenWindowDefined.TheImpl as taken
use Rattle.def_iface.specs.contracts.taken_control.TakenControlDefined.TheImpl as taken_control
use Rattle.def_iface.specs.contracts.taken_list.TakenListDefined.TheImpl as taken_list
use Rattle.def_iface.specs.contracts.taken_menu.TakenMenuDefined.TheImpl as taken_menu
use Rattle.desk_toolbox.proofs.toolbox.Toolbox.run.Given as goal

abbrev pub invariant-loop-call : goal.invariant-loop-call
invariant-loop-call g l =
    let loan = (taken.loan-value g.dyn-1).it in
    let menu_loan = (taken_menu.loan-value g.dyn-3).it in
    let control_loan = (taken_control.loan-value g.dyn-2).it in
    let list_loan = (taken_list.loan-value g.dyn-4).it in
    let stocks = (stock.all_slots-value g.dyn-1 g.dyn-2 g.dyn-4 g.dyn-3).it in
    record {
      whole : IsWholeToolbox loan menu_loan control_loan list_loan l.self (stocks l.stock);
      run : IsRunOfCalls (toolbox_state loan menu_loan control_loan list_loan l.fn.self (stocks l.fn.stock)) (take l.call-index l.calls) l.answers.items (toolbox_state loan menu_loan control_loan list_loan l.self (stocks l.stock));
      economy : IsEconomicalRun loan menu_loan control_loan list_loan (record { toolbox = l.fn.self; stocks = stocks l.fn.stock }) (take l.call-index l.calls) l.answers.items (record { toolbox = l.self; stocks = stocks l.stock });
      room : length l.calls ≤ l.answers.cap;
      made : l.answers.len ≡ l.call-index;
    }
