use Rattle.def_iface.specs.contracts.taken_control.TakenControlDefined.TheImpl as control
use Rattle.control_mgr.proofs.Disposed.{ended_there, none_ended, planned_there}
use Rattle.control_mgr.proofs.ending.Controls+TakenControl.end_planned.Goals as goal

pub end_control-requires-clause-ending : goal.end_control-requires-clause-ending
end_control-requires-clause-ending g c =
    planned_there _ (control.loan-value g.dyn-1).it c.args.control c.args.windows.now c.args.self.now c.args.planned c.requires.planned c.in-Some.ending c.in-Some.is

pub returns-in-Some-clause-step : goal.returns-in-Some-clause-step
returns-in-Some-clause-step g c =
    ended_there _ (control.loan-value g.dyn-1).it c.args.control c.args.windows.now c.args.self.now c.args.planned c.requires.planned c.in-Some.ending c.in-Some.is
    c.end_control.new.windows c.end_control.new.self _ _ c.end_control.ensures.step

pub returns-in_default-clause-step : goal.returns-in_default-clause-step
returns-in_default-clause-step g c =
    none_ended _ (control.loan-value g.dyn-1).it c.args.control c.args.windows.now c.args.self.now c.args.planned c.requires.planned c.in_default.is _
