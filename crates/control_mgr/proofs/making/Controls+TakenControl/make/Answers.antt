use Rattle.def_iface.specs.contracts.taken_control.TakenControlDefined.TheImpl as control
use Rattle.control_mgr.proofs.NewSteps.{beside_planned, made_step, not_given_step, taken_named, unmade_step}
use Rattle.control_mgr.proofs.making.Controls+TakenControl.make.Goals as goal

pub add-requires-clause-beside : goal.add-requires-clause-beside
add-requires-clause-beside g c =
    beside_planned _ (control.loan-value g.dyn-1).it c.args.windows.now c.args.self.now c.plan.new.self _ c.plan.ensures.same c.requires.whole

pub returns-in-Ok-plan : goal.returns-in-Ok-plan
returns-in-Ok-plan g c =
    let took = taken_named _ _ _ _ _ c.as_slice.ensures c.in-Ok.ensures.taken in
    made_step _ (control.loan-value g.dyn-1).it c.args.new.now c.args.windows.now c.args.self.now c.plan.new.self c.plan.ensures.same c.add.new.windows c.add.new.self _ _ _ _
    took c.in-Ok-plan.ensures.judged (λ o. c.add.ensures.step _ _ took o)

pub returns-in-Err-plan : goal.returns-in-Err-plan
returns-in-Err-plan g c =
    unmade_step _ (control.loan-value g.dyn-1).it c.args.new.now c.args.windows.now c.args.self.now c.plan.new.self c.plan.ensures.same _ _ _ _ _
    (taken_named _ _ _ _ _ c.as_slice.ensures c.in-Ok.ensures.taken) c.put_back.ensures c.in-Err-plan.ensures.err

pub returns-in-Err-NoDefinition : goal.returns-in-Err-NoDefinition
returns-in-Err-NoDefinition g c =
    not_given_step _ (control.loan-value g.dyn-1).it c.args.new.now c.args.windows.now c.args.self.now _ _ _ _ _ c.as_slice.ensures c.in-Err-NoDefinition.field-0-is
    c.in-Err-NoDefinition.ensures.refused c.refusal_without.ensures c.in-Err-NoDefinition.ensures.kept
