use Rattle.std.proofs.Common.{sym, subst}
use Rattle.std.specs.Result.{result_ok}
use Rattle.def_iface.specs.contracts.taken_window.TakenWindowDefined.TheImpl as taken
use Rattle.def_iface.specs.contracts.taken_control.TakenControlDefined.TheImpl as taken_control
use Rattle.def_iface.specs.contracts.taken_list.TakenListDefined.TheImpl as taken_list
use Rattle.def_iface.specs.contracts.taken_menu.TakenMenuDefined.TheImpl as taken_menu
use Rattle.script_runner.specs.Checks.{IsCheckLine, check_text}
use Rattle.script_runner.specs.SessionViews.{session_of}
use Rattle.script_runner.proofs.Checked.{line_of_desk, line_of_none}
use Rattle.script_runner.proofs.session.Session.check.Goals.{in-Some, in-None}
use Rattle.script_runner.proofs.session.Session.check.Goals as goal

pub differences-count-requires : goal.differences-count-requires
differences-count-requires g c = c.requires.kept c.in-Some.desk c.in-Some.is

pub returns-clause-line : goal.returns-clause-line
returns-clause-line g c = λ stocks.
    let loan = (taken.loan-value g.dyn-1).it in
    let menu_loan = (taken_menu.loan-value g.dyn-3).it in
    let control_loan = (taken_control.loan-value g.dyn-2).it in
    let list_loan = (taken_list.loan-value g.dyn-4).it in
    let session = session_of loan menu_loan control_loan list_loan c.args.self.now stocks in
    let line : IsCheckLine session (check_text (result_ok c.match-self.count)) =
    elim c.match-self.branch [
      | in-Some w ↦ subst (λ n. IsCheckLine session (check_text (result_ok n))) (sym w.count-is) (line_of_desk loan menu_loan control_loan list_loan c.args.self.now.font stocks c.args.self.now.desk w.in-Some.desk w.differences-count.result w.in-Some.is w.differences-count.ensures)
      | in-None w ↦ subst (λ n. IsCheckLine session (check_text (result_ok n))) (sym w.count-is) (line_of_none loan menu_loan control_loan list_loan c.args.self.now.font stocks c.args.self.now.desk w.in-None.is)
    ] in
    (check_text c.ok.result, subst (λ n. IsCheckLine session (check_text n)) (sym c.ok.ensures.value) line, c.check.ensures.sent)
