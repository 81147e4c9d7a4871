use Rattle.std.proofs.Common.{false}
use Rattle.window_mgr.proofs.Contents.{layers_apart}
use Rattle.window_mgr.proofs.LayerToggled.{index_toggled}
use Rattle.window_mgr.proofs.Remarked.{area_kept, settled_there}
use Rattle.window_mgr.proofs.manager.WindowManager.toggle_layer.Goals as goal

pub index-area-requires : goal.index-area-requires
index-area-requires g c = area_kept _ c.args.self.now c.requires.kept c.args.at c.requires.at

pub invert_layer-requires-clause-placed : goal.invert_layer-requires-clause-placed
invert_layer-requires-clause-placed g c = (settled_there _ c.args.self.now c.requires.kept c.args.at c.at.result.now c.requires.at c.at.ensures).placed

pub invert_layer-requires-clause-at : goal.invert_layer-requires-clause-at
invert_layer-requires-clause-at g c = c.requires.index c.at.result.now c.at.ensures

pub invert_layer-requires-clause-apart : goal.invert_layer-requires-clause-apart
invert_layer-requires-clause-apart g c = layers_apart _ c.args.self.now c.requires.kept.slots c.requires.kept.whole c.args.at c.requires.at c.at.result.now c.at.ensures (λ font q p. false)

pub returns : goal.returns
returns g c w there l read was is slots whole =
    index_toggled _ c.args.self.now slots whole c.args.at c.requires.at w there c.index-area.result.now c.index-area.ensures was is c.args.index l read c.at.result.now c.at.ensures c.invert_layer.new.map (g.T.Toggling.toggles c.args.toggling.now) c.invert_layer.ensures
