use Rattle.std.proofs.Common.{◌<◌, length, subst}
use Rattle.std.specs.Prelude.{IfSome}
use Rattle.window_mgr.proofs.LayersPlanned.{planned, some_drawn, none_drawn}
use Rattle.window_mgr.proofs.Remarked.{area_there}
use Rattle.window_mgr.proofs.manager.WindowManager.plan_layers.Goals.{in-Some, in-None}
use Rattle.window_mgr.proofs.manager.WindowManager.plan_layers.Goals as goal

pub area-requires : goal.area-requires
area-requires g c = area_there _ c.args.self.now c.requires.kept c.args.at c.requires.at

pub returns : goal.returns
returns g c =
    planned _ c.args.self.now c.args.at c.area.result.now c.area.ensures c.args.update.now c.args.relaid.now c.args.afresh c.match-afresh.drawn c.relaying_of.result
    (elim c.match-afresh.branch [
      | in-Some w ↦ some_drawn c.args.relaid.now.layers w.in-Some.index w.owned.result c.args.afresh c.match-afresh.drawn (subst (λ x. IfSome x (λ i. i < length c.args.relaid.now.layers.layers)) w.in-Some.is c.requires.afresh) w.in-Some.is w.drawn-is w.owned.ensures
      | in-None w ↦ none_drawn c.args.relaid.now.layers c.args.afresh c.match-afresh.drawn w.in-None.is w.drawn-is
    ])
    c.relaying_of.ensures
