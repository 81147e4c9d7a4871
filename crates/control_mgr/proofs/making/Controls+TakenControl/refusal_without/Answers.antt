use Rattle.std.proofs.Common.{None}
use Rattle.def_iface.specs.contracts.taken_control.TakenControlDefined.TheImpl as control
use Rattle.control_mgr.proofs.Judging.{judged_before, none_is_left}
use Rattle.control_mgr.proofs.making.Controls+TakenControl.refusal_without.Goals as goal

pub returns-in-Ok : goal.returns-in-Ok
returns-in-Ok g c = none_is_left _ (control.loan-value g.dyn-1).it c.args.new.now None c.args.windows.now c.args.self.now c.in-Ok.ensures.0

pub returns-in-Err : goal.returns-in-Err
returns-in-Err g c = judged_before _ (control.loan-value g.dyn-1).it c.args.new.now None c.args.windows.now c.args.self.now _ c.in-Err.ensures
