use Rattle.window_mgr.proofs.Contents.{layers_apart}
use Rattle.window_mgr.proofs.LayerRedrawn.{index_redrawn, index_written}
use Rattle.window_mgr.proofs.Remarked.{area_kept, settled_there}
use Rattle.window_mgr.proofs.manager.WindowManager.show_layer.Goals as goal

pub index-area-requires : goal.index-area-requires
index-area-requires g c = area_kept _ c.args.self.now c.requires.kept c.args.at c.requires.at

pub show_layer-requires-clause-placed : goal.show_layer-requires-clause-placed
show_layer-requires-clause-placed g c = (settled_there _ c.args.self.now c.requires.kept c.args.at c.at.result.now c.requires.at c.at.ensures).placed

pub show_layer-requires-clause-at : goal.show_layer-requires-clause-at
show_layer-requires-clause-at g c = c.requires.index c.at.result.now c.at.ensures

pub show_layer-requires-clause-apart : goal.show_layer-requires-clause-apart
show_layer-requires-clause-apart g c = layers_apart _ c.args.self.now c.requires.kept.slots c.requires.kept.whole c.args.at c.requires.at c.at.result.now c.at.ensures (g.S.Showing.shows c.args.showing.now)

pub returns-clause-drawn : goal.returns-clause-drawn
returns-clause-drawn g c w there l read was slots whole =
    index_redrawn _ c.args.self.now slots whole c.args.at c.requires.at w there c.index-area.result.now c.index-area.ensures was (g.S.Showing.shows c.args.showing.now) c.args.index (c.requires.index w there) l read c.at.result.now c.at.ensures c.args.within c.show_layer.new.map c.show_layer.ensures.drawn

pub returns-clause-within : goal.returns-clause-within
returns-clause-within g c w there l read =
    index_written _ c.args.self.now c.requires.kept.slots c.requires.kept.whole c.args.at c.requires.at w there c.index-area.result.now c.index-area.ensures (g.S.Showing.shows c.args.showing.now) c.args.index l read c.at.result.now c.at.ensures c.args.within c.show_layer.new.map c.show_layer.ensures.written
