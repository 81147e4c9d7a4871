use Rattle.list_mgr.proofs.BarsGone.{bar_out, bar_planned, none_planned}
use Rattle.list_mgr.proofs.ending.plan_bar.Goals as goal

pub returns-in-Some-clause-out : goal.returns-in-Some-clause-out
returns-in-Some-clause-out g c = bar_out c.in-Some.control c.args.bar c.in-Some.is c.args.at c.args.layers.now c.plan_ending.result c.plan_ending.ensures.out

pub returns-in-Some-clause-planned : goal.returns-in-Some-clause-planned
returns-in-Some-clause-planned g c =
    bar_planned _ _ c.args.window c.in-Some.control c.args.bar c.in-Some.is c.args.at c.args.layers.now c.args.update.now c.args.windows.now c.plan_ending.result c.plan_ending.ensures.planned

pub returns-in-None-clause-planned : goal.returns-in-None-clause-planned
returns-in-None-clause-planned g c = none_planned _ _ c.args.window c.args.bar c.in-None.is c.args.at c.args.layers.now c.args.update.now c.args.windows.now
