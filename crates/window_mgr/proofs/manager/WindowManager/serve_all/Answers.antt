use Rattle.window_mgr.proofs.Contents.{layers_apart}
use Rattle.window_mgr.proofs.KindsRefreshed.{content_refreshed}
use Rattle.window_mgr.proofs.Remarked.{area_there, area_kept, settled_there}
use Rattle.window_mgr.proofs.manager.WindowManager.serve_all.Goals as goal

pub index-requires : goal.index-requires
index-requires g c = area_kept _ c.args.self.now c.requires.kept c.args.at c.requires.at

pub paint_content-requires-clause-placed : goal.paint_content-requires-clause-placed
paint_content-requires-clause-placed g c = (settled_there _ c.args.self.now c.requires.kept c.args.at c.at.result.now c.requires.at c.at.ensures).placed

pub paint_content-requires-clause-origin : goal.paint_content-requires-clause-origin
paint_content-requires-clause-origin g c = (settled_there _ c.args.self.now c.requires.kept c.args.at c.at.result.now c.requires.at c.at.ensures).origin

pub paint_content-requires-clause-apart : goal.paint_content-requires-clause-apart
paint_content-requires-clause-apart g c = layers_apart _ c.args.self.now c.requires.kept.slots c.requires.kept.whole c.args.at c.requires.at c.at.result.now c.at.ensures (g.S.Showing.shows c.args.layers.now)

pub put_update-requires : goal.put_update-requires
put_update-requires g c = area_there _ c.args.self.now c.requires.kept c.args.at c.requires.at

pub returns : goal.returns
returns g c w there slots whole =
    rw c.put_update.ensures.state (
    content_refreshed _ c.args.self.now slots whole c.args.at c.requires.at w there c.put_update.ensures.area c.put_update.ensures.there (g.S.Showing.shows c.args.layers.now) c.empty-nothing.result c.empty-nothing.ensures
    c.paint_content.new.map c.index.result.now c.index.ensures c.at.result.now c.at.ensures c.paint_content.ensures)
