use Rattle.std.proofs.Common.{ap}
use Rattle.window_mgr.proofs.Remarked.{area_there, remarked}
use Rattle.window_mgr.specs.declared.manager.WindowManager.{WindowManager}
use Rattle.window_mgr.proofs.manager.WindowManager.set_update.Goals as goal

pub put_update-requires : goal.put_update-requires
put_update-requires g c = area_there _ c.args.self.now c.requires.kept c.args.at c.requires.at

pub returns-clause-remarked : goal.returns-clause-remarked
returns-clause-remarked g c w there slots whole = rw c.put_update.ensures.state (
    remarked _ c.args.self.now slots whole c.args.at c.requires.at w there c.put_update.ensures.area c.put_update.ensures.there c.args.update (c.requires.within c.put_update.ensures.area c.put_update.ensures.there))

pub returns-clause-quiet : goal.returns-clause-quiet
returns-clause-quiet g c = ap (λ t. t.screen) c.put_update.ensures.state
