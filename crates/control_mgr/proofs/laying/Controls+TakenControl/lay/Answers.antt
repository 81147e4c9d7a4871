use Rattle.std.proofs.Common.{◌≡◌, get_or, refl, ap, ◌∙◌, subst}
use Rattle.window_list.specs.LayerChanges.{reshaped}
use Rattle.window_mgr.proofs.Remarked.{area_there}
use Rattle.control_mgr.proofs.LaidSo.{has_now}
use Rattle.control_mgr.proofs.Lays.{after_laying, before_laying, its_shape, laid, may_so, may_tell, one_item, settled_laid}
use Rattle.control_mgr.proofs.laying.Controls+TakenControl.lay.Goals as goal

pub shape_of-requires : goal.shape_of-requires
shape_of-requires g c =
    may_so _ _ c.args.windows.now c.args.self.now c.args.spot c.requires.spot c.args.lie c.requires.may c.index.result.now c.index.ensures

pub with_shape-requires-clause-at : goal.with_shape-requires-clause-at
with_shape-requires-clause-at g c =
    (before_laying _ _ c.args.windows.now c.args.self.now c.args.spot c.requires.spot c.args.lie c.requires.may c.index.result.now c.index.ensures c.in_ok-shape.shape c.in_ok-shape.ensures
    c.requires.kept c.requires.beside c.at.result.now (c.at.ensures ∙ ap (λ ls. get_or ls.records.items c.args.spot.window c.at.result.now) c.list.ensures) c.layer_index-layer.result c.layer_index-layer.ensures).low

pub with_shape-requires-clause-lies : goal.with_shape-requires-clause-lies
with_shape-requires-clause-lies g c k read =
    (before_laying _ _ c.args.windows.now c.args.self.now c.args.spot c.requires.spot c.args.lie c.requires.may c.index.result.now c.index.ensures c.in_ok-shape.shape c.in_ok-shape.ensures
    c.requires.kept c.requires.beside c.at.result.now (c.at.ensures ∙ ap (λ ls. get_or ls.records.items c.args.spot.window c.at.result.now) c.list.ensures) c.layer_index-layer.result c.layer_index-layer.ensures).lies k

pub with_shape-requires-clause-apart : goal.with_shape-requires-clause-apart
with_shape-requires-clause-apart g c =
    (before_laying _ _ c.args.windows.now c.args.self.now c.args.spot c.requires.spot c.args.lie c.requires.may c.index.result.now c.index.ensures c.in_ok-shape.shape c.in_ok-shape.ensures
    c.requires.kept c.requires.beside c.at.result.now (c.at.ensures ∙ ap (λ ls. get_or ls.records.items c.args.spot.window c.at.result.now) c.list.ensures) c.layer_index-layer.result c.layer_index-layer.ensures).apart

pub area-requires : goal.area-requires
area-requires g c = area_there _ c.args.windows.now c.requires.kept c.args.spot.window c.requires.spot.is.window.0

pub plan_layers-requires-clause-apart : goal.plan_layers-requires-clause-apart
plan_layers-requires-clause-apart g c =
    (after_laying _ _ c.args.windows.now c.args.self.now c.args.spot c.requires.spot c.args.lie c.requires.may c.index.result.now c.index.ensures c.in_ok-shape.shape c.in_ok-shape.ensures
    c.requires.kept c.requires.beside c.at.result.now (c.at.ensures ∙ ap (λ ls. get_or ls.records.items c.args.spot.window c.at.result.now) c.list.ensures) c.layer_index-layer.result c.layer_index-layer.ensures
    c.in_ok-relaid.relaid c.in_ok-relaid.ensures.layers c.in_ok-relaid.ensures.gained).may.apart

pub plan_layers-requires-clause-afresh : goal.plan_layers-requires-clause-afresh
plan_layers-requires-clause-afresh g c =
    (after_laying _ _ c.args.windows.now c.args.self.now c.args.spot c.requires.spot c.args.lie c.requires.may c.index.result.now c.index.ensures c.in_ok-shape.shape c.in_ok-shape.ensures
    c.requires.kept c.requires.beside c.at.result.now (c.at.ensures ∙ ap (λ ls. get_or ls.records.items c.args.spot.window c.at.result.now) c.list.ensures) c.layer_index-layer.result c.layer_index-layer.ensures
    c.in_ok-relaid.relaid c.in_ok-relaid.ensures.layers c.in_ok-relaid.ensures.gained).low

pub put_lie-requires-clause-tellable : goal.put_lie-requires-clause-tellable
put_lie-requires-clause-tellable g c =
    may_tell _ _ c.args.windows.now c.args.self.now c.args.spot c.requires.spot c.args.lie c.requires.may c.index.result.now c.index.ensures c.requires.beside.whole.settled

pub commit_layers-requires-clause-may : goal.commit_layers-requires-clause-may
commit_layers-requires-clause-may g c =
    (after_laying _ _ c.args.windows.now c.args.self.now c.args.spot c.requires.spot c.args.lie c.requires.may c.index.result.now c.index.ensures c.in_ok-shape.shape c.in_ok-shape.ensures
    c.requires.kept c.requires.beside c.at.result.now (c.at.ensures ∙ ap (λ ls. get_or ls.records.items c.args.spot.window c.at.result.now) c.list.ensures) c.layer_index-layer.result c.layer_index-layer.ensures
    c.in_ok-relaid.relaid c.in_ok-relaid.ensures.layers c.in_ok-relaid.ensures.gained).may

pub commit_layers-requires-clause-afresh : goal.commit_layers-requires-clause-afresh
commit_layers-requires-clause-afresh g c =
    (after_laying _ _ c.args.windows.now c.args.self.now c.args.spot c.requires.spot c.args.lie c.requires.may c.index.result.now c.index.ensures c.in_ok-shape.shape c.in_ok-shape.ensures
    c.requires.kept c.requires.beside c.at.result.now (c.at.ensures ∙ ap (λ ls. get_or ls.records.items c.args.spot.window c.at.result.now) c.list.ensures) c.layer_index-layer.result c.layer_index-layer.ensures
    c.in_ok-relaid.relaid c.in_ok-relaid.ensures.layers c.in_ok-relaid.ensures.gained).low

pub commit_layers-requires-clause-planned : goal.commit_layers-requires-clause-planned
commit_layers-requires-clause-planned g c part part_is =
    let after = after_laying _ _ c.args.windows.now c.args.self.now c.args.spot c.requires.spot c.args.lie c.requires.may c.index.result.now c.index.ensures c.in_ok-shape.shape c.in_ok-shape.ensures
    c.requires.kept c.requires.beside c.at.result.now (c.at.ensures ∙ ap (λ ls. get_or ls.records.items c.args.spot.window c.at.result.now) c.list.ensures) c.layer_index-layer.result c.layer_index-layer.ensures
    c.in_ok-relaid.relaid c.in_ok-relaid.ensures.layers c.in_ok-relaid.ensures.gained in
    c.in_ok-relaying.ensures c.args.windows.now (has_now _ c.args.windows.now c.requires.kept c.args.spot.window c.requires.spot.is.window.0 c.area.result.now c.area.ensures) after.may part part_is (after.gained part part_is)

pub commit_layers-requires-clause-whole : goal.commit_layers-requires-clause-whole
commit_layers-requires-clause-whole g c =
    settled_laid _ _ c.args.windows.now c.args.self.now c.args.spot c.requires.spot c.args.lie c.requires.may c.index.result.now c.index.ensures c.put_lie.new.self c.requires.beside.whole.settled c.put_lie.ensures.changed

pub returns : goal.returns
returns g c named is o kept others slots whole controls =
    let t = c.args.windows.now in
    let m = c.args.self.now in
    let spot = c.args.spot in
    let lies = c.at.ensures ∙ ap (λ ls. get_or ls.records.items spot.window c.at.result.now) c.list.ensures in
    let left = laid _ _ named t c.commit_layers.new.self m c.put_lie.new.self spot is c.args.lie c.requires.may c.in_ok-shape.shape
    (its_shape _ _ t m spot (record { of = named; is = is }) c.args.lie c.requires.may c.index.result.now c.index.ensures c.in_ok-shape.shape c.in_ok-shape.ensures)
    c.layer_index-layer.result c.layer_index-layer.ensures c.in_ok-relaid.relaid
    (λ w w_is. subst (λ v. c.in_ok-relaid.relaid.layers ≡ record v.layers { layers = reshaped c.in_ok-shape.shape c.layer_index-layer.result v.layers.layers })
    (one_item t.windows.records.items spot.window c.at.result.now w is.window.0 lies w_is) c.in_ok-relaid.ensures.layers)
    c.put_lie.ensures.changed c.put_lie.ensures.next c.commit_layers.ensures.set o kept others slots whole controls in
    (left.0, left.1, (refl, left.2))
