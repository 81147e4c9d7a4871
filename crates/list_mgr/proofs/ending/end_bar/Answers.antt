use Rattle.list_mgr.proofs.BarsGone.{bar_gone, none_gone, none_put, to_end}
use Rattle.list_mgr.proofs.ending.end_bar.Goals as goal

pub end_planned-requires-clause-planned : goal.end_planned-requires-clause-planned
end_planned-requires-clause-planned g c = to_end _ _ c.args.window c.in-Some.control c.args.bar c.in-Some.is c.args.windows.now c.args.controls.now c.args.planned c.requires.planned

pub returns-in-Some-clause-gone : goal.returns-in-Some-clause-gone
returns-in-Some-clause-gone g c =
    bar_gone _ _ c.args.window c.in-Some.control c.args.bar c.in-Some.is c.args.windows.now c.end_planned.new.windows c.args.controls.now c.end_planned.new.self _ _ c.end_planned.ensures.step

pub returns-in_default-clause-gone : goal.returns-in_default-clause-gone
returns-in_default-clause-gone g c = none_gone _ _ c.args.window c.args.bar c.in_default.is c.args.windows.now c.args.controls.now _

pub returns-in_default-clause-put : goal.returns-in_default-clause-put
returns-in_default-clause-put g c = none_put _ _ c.args.window c.args.bar c.in_default.is c.args.windows.now c.args.controls.now c.args.planned c.requires.planned
