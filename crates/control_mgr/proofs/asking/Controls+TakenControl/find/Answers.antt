use Rattle.std.proofs.Common.{sym, ◌∙◌}
use Rattle.def_iface.specs.contracts.taken_window.TakenWindowDefined.TheImpl as window
use Rattle.def_iface.specs.contracts.taken_control.TakenControlDefined.TheImpl as control
use Rattle.control_mgr.proofs.Finds.{find_refused, find_told}
use Rattle.control_mgr.proofs.asking.Controls+TakenControl.find.Goals as goal

pub returns-then-not-is_in_range : goal.returns-then-not-is_in_range
returns-then-not-is_in_range g c o =
    find_refused (window.loan-value g.dyn-2).it (control.loan-value g.dyn-1).it c.args.windows.now c.args.self.now c.requires.kept c.args.asked c.in-Some.at c.in-Some.ensures o
    (sym c.is_in_range.ensures ∙ c.if-not-is_in_range.true)

pub returns : goal.returns
returns g c o =
    find_told (window.loan-value g.dyn-2).it (control.loan-value g.dyn-1).it c.args.windows.now c.args.self.now c.requires.kept c.args.asked c.in-Some.at c.in-Some.ensures o _
    (sym c.is_in_range.ensures ∙ c.if-not-is_in_range.false) c.found_at.ensures
