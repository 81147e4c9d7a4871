use Rattle.std.proofs.Common.{rules, get_or, refl, sym, ap, ◌∙◌}
use Rattle.text_record.specs.Placings.{box_of, is_placing}
use Rattle.window_mgr.proofs.Remarked.{area_there}
use Rattle.control_mgr.proofs.LaidSo.{has_now}
use Rattle.text_mgr.proofs.LaysSo.{after_laying, before_laying, found_at, in_range, laid_so, may_be_put, may_place}
use Rattle.text_mgr.proofs.texts.Texts.lay.Goals as goal

pub box_of-bounds-requires : goal.box_of-bounds-requires
box_of-bounds-requires g c =
    ap (λ b. is_placing b c.args.lie.placing) c.is_framed.ensures
    ∙ may_place _ c.requires.spot.of c.args.windows.now c.args.self.now c.args.spot c.requires.spot.is c.args.lie c.requires.may c.index-text.result.now c.index-text.ensures

pub shape_of-requires : goal.shape_of-requires
shape_of-requires g c =
    in_range _ c.requires.spot.of c.args.windows.now c.args.self.now c.args.spot c.requires.spot.is c.args.lie c.requires.may c.index-text.result.now c.index-text.ensures c.box_of-bounds.result
    (c.box_of-bounds.ensures ∙ ap (λ b. box_of b c.args.lie.placing.view) c.is_framed.ensures)

pub unwrap-layer-requires : goal.unwrap-layer-requires
unwrap-layer-requires g c =
    let is = found_at _ c.requires.spot.of c.args.windows.now c.args.self.now c.args.spot c.requires.spot.is c.args.lie c.requires.may c.index-text.result.now c.index-text.ensures c.requires.beside c.at.result.now
    (c.at.ensures ∙ ap (λ ls. get_or ls.records.items c.args.spot.window c.at.result.now) c.list.ensures) c.find.result c.find.ensures.first in
    search (rules, is)

pub with_shape-requires-clause-at : goal.with_shape-requires-clause-at
with_shape-requires-clause-at g c =
    (before_laying _ c.requires.spot.of c.args.windows.now c.args.self.now c.args.spot c.requires.spot.is c.args.lie c.requires.may c.index-text.result.now c.index-text.ensures c.requires.beside c.at.result.now
    (c.at.ensures ∙ ap (λ ls. get_or ls.records.items c.args.spot.window c.at.result.now) c.list.ensures) c.unwrap-layer.result (sym c.find.ensures.first ∙ c.unwrap-layer.ensures) c.box_of-bounds.result
    (c.box_of-bounds.ensures ∙ ap (λ b. box_of b c.args.lie.placing.view) c.is_framed.ensures) c.in_ok-shape.shape c.in_ok-shape.ensures c.requires.kept).low

pub with_shape-requires-clause-lies : goal.with_shape-requires-clause-lies
with_shape-requires-clause-lies g c k read =
    (before_laying _ c.requires.spot.of c.args.windows.now c.args.self.now c.args.spot c.requires.spot.is c.args.lie c.requires.may c.index-text.result.now c.index-text.ensures c.requires.beside c.at.result.now
    (c.at.ensures ∙ ap (λ ls. get_or ls.records.items c.args.spot.window c.at.result.now) c.list.ensures) c.unwrap-layer.result (sym c.find.ensures.first ∙ c.unwrap-layer.ensures) c.box_of-bounds.result
    (c.box_of-bounds.ensures ∙ ap (λ b. box_of b c.args.lie.placing.view) c.is_framed.ensures) c.in_ok-shape.shape c.in_ok-shape.ensures c.requires.kept).lies k

pub with_shape-requires-clause-apart : goal.with_shape-requires-clause-apart
with_shape-requires-clause-apart g c =
    (before_laying _ c.requires.spot.of c.args.windows.now c.args.self.now c.args.spot c.requires.spot.is c.args.lie c.requires.may c.index-text.result.now c.index-text.ensures c.requires.beside c.at.result.now
    (c.at.ensures ∙ ap (λ ls. get_or ls.records.items c.args.spot.window c.at.result.now) c.list.ensures) c.unwrap-layer.result (sym c.find.ensures.first ∙ c.unwrap-layer.ensures) c.box_of-bounds.result
    (c.box_of-bounds.ensures ∙ ap (λ b. box_of b c.args.lie.placing.view) c.is_framed.ensures) c.in_ok-shape.shape c.in_ok-shape.ensures c.requires.kept).apart

pub area-requires : goal.area-requires
area-requires g c =
    area_there _ c.args.windows.now c.requires.kept c.args.spot.window c.requires.spot.is.window.0

pub plan_layers-requires-clause-apart : goal.plan_layers-requires-clause-apart
plan_layers-requires-clause-apart g c =
    (after_laying _ c.requires.spot.of c.args.windows.now c.args.self.now c.args.spot c.requires.spot.is c.args.lie c.requires.may c.index-text.result.now c.index-text.ensures c.requires.beside c.at.result.now
    (c.at.ensures ∙ ap (λ ls. get_or ls.records.items c.args.spot.window c.at.result.now) c.list.ensures) c.unwrap-layer.result (sym c.find.ensures.first ∙ c.unwrap-layer.ensures) c.box_of-bounds.result
    (c.box_of-bounds.ensures ∙ ap (λ b. box_of b c.args.lie.placing.view) c.is_framed.ensures) c.in_ok-shape.shape c.in_ok-shape.ensures c.requires.kept c.in_ok-relaid.relaid c.in_ok-relaid.ensures.layers c.in_ok-relaid.ensures.gained).may.apart

pub plan_layers-requires-clause-afresh : goal.plan_layers-requires-clause-afresh
plan_layers-requires-clause-afresh g c =
    (after_laying _ c.requires.spot.of c.args.windows.now c.args.self.now c.args.spot c.requires.spot.is c.args.lie c.requires.may c.index-text.result.now c.index-text.ensures c.requires.beside c.at.result.now
    (c.at.ensures ∙ ap (λ ls. get_or ls.records.items c.args.spot.window c.at.result.now) c.list.ensures) c.unwrap-layer.result (sym c.find.ensures.first ∙ c.unwrap-layer.ensures) c.box_of-bounds.result
    (c.box_of-bounds.ensures ∙ ap (λ b. box_of b c.args.lie.placing.view) c.is_framed.ensures) c.in_ok-shape.shape c.in_ok-shape.ensures c.requires.kept c.in_ok-relaid.relaid c.in_ok-relaid.ensures.layers c.in_ok-relaid.ensures.gained).low

pub put_lie-requires-clause-may : goal.put_lie-requires-clause-may
put_lie-requires-clause-may g c =
    may_be_put _ c.requires.spot.of c.args.windows.now c.args.self.now c.args.spot c.requires.spot.is c.args.lie c.requires.may c.index-text.result.now c.index-text.ensures

pub commit_layers-requires-clause-may : goal.commit_layers-requires-clause-may
commit_layers-requires-clause-may g c =
    (after_laying _ c.requires.spot.of c.args.windows.now c.args.self.now c.args.spot c.requires.spot.is c.args.lie c.requires.may c.index-text.result.now c.index-text.ensures c.requires.beside c.at.result.now
    (c.at.ensures ∙ ap (λ ls. get_or ls.records.items c.args.spot.window c.at.result.now) c.list.ensures) c.unwrap-layer.result (sym c.find.ensures.first ∙ c.unwrap-layer.ensures) c.box_of-bounds.result
    (c.box_of-bounds.ensures ∙ ap (λ b. box_of b c.args.lie.placing.view) c.is_framed.ensures) c.in_ok-shape.shape c.in_ok-shape.ensures c.requires.kept c.in_ok-relaid.relaid c.in_ok-relaid.ensures.layers c.in_ok-relaid.ensures.gained).may

pub commit_layers-requires-clause-afresh : goal.commit_layers-requires-clause-afresh
commit_layers-requires-clause-afresh g c =
    (after_laying _ c.requires.spot.of c.args.windows.now c.args.self.now c.args.spot c.requires.spot.is c.args.lie c.requires.may c.index-text.result.now c.index-text.ensures c.requires.beside c.at.result.now
    (c.at.ensures ∙ ap (λ ls. get_or ls.records.items c.args.spot.window c.at.result.now) c.list.ensures) c.unwrap-layer.result (sym c.find.ensures.first ∙ c.unwrap-layer.ensures) c.box_of-bounds.result
    (c.box_of-bounds.ensures ∙ ap (λ b. box_of b c.args.lie.placing.view) c.is_framed.ensures) c.in_ok-shape.shape c.in_ok-shape.ensures c.requires.kept c.in_ok-relaid.relaid c.in_ok-relaid.ensures.layers c.in_ok-relaid.ensures.gained).low

pub commit_layers-requires-clause-planned : goal.commit_layers-requires-clause-planned
commit_layers-requires-clause-planned g c part part_is =
    let after = (after_laying _ c.requires.spot.of c.args.windows.now c.args.self.now c.args.spot c.requires.spot.is c.args.lie c.requires.may c.index-text.result.now c.index-text.ensures c.requires.beside c.at.result.now
    (c.at.ensures ∙ ap (λ ls. get_or ls.records.items c.args.spot.window c.at.result.now) c.list.ensures) c.unwrap-layer.result (sym c.find.ensures.first ∙ c.unwrap-layer.ensures) c.box_of-bounds.result
    (c.box_of-bounds.ensures ∙ ap (λ b. box_of b c.args.lie.placing.view) c.is_framed.ensures) c.in_ok-shape.shape c.in_ok-shape.ensures c.requires.kept c.in_ok-relaid.relaid c.in_ok-relaid.ensures.layers c.in_ok-relaid.ensures.gained) in
    c.in_ok-relaying.ensures c.args.windows.now (has_now _ c.args.windows.now c.requires.kept c.args.spot.window c.requires.spot.is.window.0 c.area.result.now c.area.ensures) after.may part part_is (after.gained part part_is)

pub returns : goal.returns
returns g c named is o others slots whole beside =
    let left = laid_so _ named c.args.windows.now c.args.self.now c.args.spot is c.args.lie c.requires.may c.index-text.result.now c.index-text.ensures c.requires.beside c.at.result.now
    (c.at.ensures ∙ ap (λ ls. get_or ls.records.items c.args.spot.window c.at.result.now) c.list.ensures) c.unwrap-layer.result (sym c.find.ensures.first ∙ c.unwrap-layer.ensures) c.box_of-bounds.result
    (c.box_of-bounds.ensures ∙ ap (λ b. box_of b c.args.lie.placing.view) c.is_framed.ensures) c.in_ok-shape.shape c.in_ok-shape.ensures c.in_ok-relaid.relaid c.in_ok-relaid.ensures.layers c.commit_layers.new.self c.put_lie.new.self c.put_lie.ensures.texts c.put_lie.ensures.next c.put_lie.ensures.scrap
    c.commit_layers.ensures.set o others slots whole beside in
    (left.0, left.1, (refl, left.2))
