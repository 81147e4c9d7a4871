use Rattle.std.proofs.Common.{rules}
use Rattle.window_mgr.proofs.PlacementCalls as placing
use Rattle.window_mgr.proofs.manager.WindowManager.place_window.Goals as goal

pub plan_edit-requires-clause-placed : goal.plan_edit-requires-clause-placed
plan_edit-requires-clause-placed g c =
    placing.is_placeable _ c.args.self.now c.requires.kept c.args.at c.args.placement c.requires.at c.at.result.now (search rules) c.requires.placeable c.of-edit.result c.of-edit.ensures

pub plan_edit-requires-clause-way : goal.plan_edit-requires-clause-way
plan_edit-requires-clause-way g c =
    placing.is_on_its_way _ c.args.self.now c.requires.kept c.args.at c.args.placement c.requires.at c.at.result.now (search rules) c.args.by c.requires.way c.of-edit.result c.of-edit.ensures

pub returns-clause-step : goal.returns-clause-step
returns-clause-step g c slots whole =
    placing.placement_done _ c.args.at c.args.placement c.args.by _ c.args.self.now c.commit_placement.new.self slots
    (placing.placement_call _ c.args.self.now c.requires.kept c.args.at c.args.placement c.requires.at c.at.result.now (search rules) c.args.by _ c.commit_placement.new.self slots c.of-edit.result whole c.requires.placeable c.of-edit.ensures c.in-Ok.ensures.plan c.commit_placement.ensures)

pub returns-clause-sparing : goal.returns-clause-sparing
returns-clause-sparing g c =
    placing.placement_spares _ c.args.at c.args.placement c.args.by _ c.args.self.now c.commit_placement.new.self _
    (placing.placement_call _ c.args.self.now c.requires.kept c.args.at c.args.placement c.requires.at c.at.result.now (search rules) c.args.by _ c.commit_placement.new.self _ c.of-edit.result c.requires.kept.whole c.requires.placeable c.of-edit.ensures c.in-Ok.ensures.plan c.commit_placement.ensures)
