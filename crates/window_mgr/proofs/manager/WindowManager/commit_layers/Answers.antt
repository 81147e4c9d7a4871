use Rattle.std.proofs.Common.{◌<◌, length, pos, sym, refl, subst}
use Rattle.std.specs.Prelude.{IfSome}
use Rattle.window_list.specs.Holders.{ArePartsApart}
use Rattle.bit_blit.proofs.DrawsLemmas.{Draws-once}
use Rattle.window_mgr.proofs.LayersSet.{whitened, some_afresh, none_afresh, still_there, read_there, placed_there, committed, layers_put}
use Rattle.window_mgr.proofs.Remarked.{area_there}
use Rattle.window_mgr.proofs.manager.WindowManager.commit_layers.Goals.{in-Some, in_default}
use Rattle.window_mgr.proofs.manager.WindowManager.commit_layers.Goals as goal

pub at-requires : goal.at-requires
at-requires g c = still_there _ c.args.self.now c.requires.kept c.args.at c.requires.at c.args.layers c.set_layers.new.self c.set_layers.ensures

pub paint_layer-requires-clause-placed : goal.paint_layer-requires-clause-placed
paint_layer-requires-clause-placed g c = (placed_there _ c.args.self.now c.requires.kept c.args.at c.requires.at c.args.layers c.set_layers.new.self c.set_layers.ensures c.at.result.now c.at.ensures).0

pub paint_layer-requires-clause-at : goal.paint_layer-requires-clause-at
paint_layer-requires-clause-at g c =
    subst (λ ls. c.in-Some.index < length ls.layers) (sym (placed_there _ c.args.self.now c.requires.kept c.args.at c.requires.at c.args.layers c.set_layers.new.self c.set_layers.ensures c.at.result.now c.at.ensures).1)
    (subst (λ x. IfSome x (λ i. i < length c.args.layers.layers)) c.in-Some.is c.requires.afresh)

pub paint_layer-requires-clause-apart : goal.paint_layer-requires-clause-apart
paint_layer-requires-clause-apart g c =
    subst (λ ls. ArePartsApart ls.layers) (sym (placed_there _ c.args.self.now c.requires.kept c.args.at c.requires.at c.args.layers c.set_layers.new.self c.set_layers.ensures c.at.result.now c.at.ensures).1) c.requires.may.apart

pub put_update-requires : goal.put_update-requires
put_update-requires g c =
    let low = area_there _ c.args.self.now c.requires.kept c.args.at c.requires.at in
    elim c.match-afresh.branch [
      | in-Some b ↦ subst (λ u. c.args.at < length u.areas.items) (sym b.self-is) low
      | in_default b ↦ subst (λ u. c.args.at < length u.areas.items) (sym b.self-is) low
    ]

pub returns-clause-put : goal.returns-clause-put
returns-clause-put g c =
    elim c.match-afresh.branch [
      | in-Some b ↦ layers_put c.args.self.now c.args.at c.args.layers c.args.relaying.update b.paint_layer.new.map c.set_layers.new.self c.match-afresh.self c.put_update.new.self c.set_layers.ensures b.self-is c.put_update.ensures
      | in_default b ↦ layers_put c.args.self.now c.args.at c.args.layers c.args.relaying.update c.fill.new.map c.set_layers.new.self c.match-afresh.self c.put_update.new.self c.set_layers.ensures b.self-is c.put_update.ensures
    ]

pub returns-clause-set : goal.returns-clause-set
returns-clause-set g c w there part part_is was slots whole =
    let white = whitened c.args.relaying.erase c.args.self.now.screen c.fill.new.map (record { h = pos 0; v = pos 0 }) (Draws-once _ _ _ _ c.fill.ensures) in
    elim c.match-afresh.branch [
      | in-Some b ↦
          committed _ c.args.self.now slots whole c.args.at c.requires.at w there c.args.layers c.requires.may part c.args.relaying (c.requires.planned part part_is) (g.S.Showing.shows c.args.showing.now) was c.fill.new.map b.paint_layer.new.map white
          (some_afresh c.args.layers w c.args.afresh part part_is c.args.relaying _ c.fill.new.map b.paint_layer.new.map b.in-Some.index b.at.result.now
          (subst (λ x. IfSome x (λ i. i < length c.args.layers.layers)) b.in-Some.is c.requires.afresh) b.in-Some.is c.requires.may.apart
          (read_there _ c.args.self.now c.requires.kept c.args.at c.requires.at c.args.layers c.set_layers.new.self c.set_layers.ensures b.at.result.now w b.at.ensures there) b.paint_layer.ensures)
          c.set_layers.new.self c.match-afresh.self c.put_update.new.self c.set_layers.ensures b.self-is c.put_update.ensures
      | in_default b ↦
          committed _ c.args.self.now slots whole c.args.at c.requires.at w there c.args.layers c.requires.may part c.args.relaying (c.requires.planned part part_is) (g.S.Showing.shows c.args.showing.now) was c.fill.new.map c.fill.new.map white
          (none_afresh c.args.layers w c.args.afresh part part_is c.args.relaying _ c.fill.new.map c.fill.new.map b.in_default.is refl)
          c.set_layers.new.self c.match-afresh.self c.put_update.new.self c.set_layers.ensures b.self-is c.put_update.ensures
    ]
