use Rattle.window_mgr.proofs.Remarked.{area_there}
use Rattle.window_mgr.proofs.ScrollSteps as steps
use Rattle.window_mgr.proofs.manager.WindowManager.plan_scroll.Goals as goal

pub area-requires : goal.area-requires
area-requires g c = area_there _ c.args.self.now c.requires.kept c.args.at c.requires.at

pub scroll_of-requires-clause-near : goal.scroll_of-requires-clause-near
scroll_of-requires-clause-near g c = (steps.area_near _ c.args.self.now c.requires.kept c.args.at c.requires.at c.area.result.now c.area.ensures).0

pub scroll_of-requires-clause-near_update : goal.scroll_of-requires-clause-near_update
scroll_of-requires-clause-near_update g c = (steps.area_near _ c.args.self.now c.requires.kept c.args.at c.requires.at c.area.result.now c.area.ensures).1

pub returns : goal.returns
returns g c =
    steps.plan_is _ c.args.self.now c.requires.kept c.args.at c.requires.at c.area.result.now c.area.ensures c.args.by c.at.result.now c.covered-covered.result.now c.scroll_of.result c.at.ensures c.covered-covered.ensures c.scroll_of.ensures
