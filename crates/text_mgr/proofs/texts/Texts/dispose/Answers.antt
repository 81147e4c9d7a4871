use Rattle.std.proofs.Common.{rules, get_or, refl, sym, ap, ◌∙◌}
use Rattle.window_mgr.proofs.Remarked.{area_there}
use Rattle.text_mgr.specs.declared.texts.Texts.{Texts}
use Rattle.text_mgr.proofs.Disposed.{disposed, found_at, left_apart, left_planned, may_be_left, out_apart}
use Rattle.text_mgr.proofs.Steps.{nothing_missing}
use Rattle.text_mgr.proofs.texts.Texts.dispose.Goals as goal

pub unwrap-layer-requires : goal.unwrap-layer-requires
unwrap-layer-requires g c =
    let is = found_at _ c.args.text c.args.windows.now c.args.self.now c.in_ok-spot.spot c.in_ok-spot.ensures c.requires.beside c.at.result.now
    (c.at.ensures ∙ ap (λ ls. get_or ls.records.items c.in_ok-spot.spot.window c.at.result.now) c.list.ensures) c.find.result c.find.ensures.first in
    search (rules, is)

pub without-requires-clause-apart : goal.without-requires-clause-apart
without-requires-clause-apart g c =
    out_apart _ c.args.text c.args.windows.now c.args.self.now c.in_ok-spot.spot c.in_ok-spot.ensures c.requires.beside c.at.result.now
    (c.at.ensures ∙ ap (λ ls. get_or ls.records.items c.in_ok-spot.spot.window c.at.result.now) c.list.ensures) c.unwrap-layer.result (sym c.find.ensures.first ∙ c.unwrap-layer.ensures) c.requires.kept

pub area-requires : goal.area-requires
area-requires g c =
    area_there _ c.args.windows.now c.requires.kept c.in_ok-spot.spot.window c.in_ok-spot.ensures.window.0

pub plan_layers-requires-clause-apart : goal.plan_layers-requires-clause-apart
plan_layers-requires-clause-apart g c =
    left_apart _ c.args.text c.args.windows.now c.args.self.now c.in_ok-spot.spot c.in_ok-spot.ensures c.requires.beside c.at.result.now
    (c.at.ensures ∙ ap (λ ls. get_or ls.records.items c.in_ok-spot.spot.window c.at.result.now) c.list.ensures) c.unwrap-layer.result (sym c.find.ensures.first ∙ c.unwrap-layer.ensures) c.requires.kept c.in_ok-relaid.relaid c.in_ok-relaid.ensures.layers

pub commit_layers-requires-clause-may : goal.commit_layers-requires-clause-may
commit_layers-requires-clause-may g c =
    may_be_left _ c.args.text c.args.windows.now c.args.self.now c.in_ok-spot.spot c.in_ok-spot.ensures c.requires.beside c.at.result.now
    (c.at.ensures ∙ ap (λ ls. get_or ls.records.items c.in_ok-spot.spot.window c.at.result.now) c.list.ensures) c.unwrap-layer.result (sym c.find.ensures.first ∙ c.unwrap-layer.ensures) c.requires.kept c.in_ok-relaid.relaid c.in_ok-relaid.ensures.layers c.area.result.now c.area.ensures

pub commit_layers-requires-clause-planned : goal.commit_layers-requires-clause-planned
commit_layers-requires-clause-planned g c part part_is =
    left_planned _ c.args.text c.args.windows.now c.args.self.now c.in_ok-spot.spot c.in_ok-spot.ensures c.requires.beside c.at.result.now
    (c.at.ensures ∙ ap (λ ls. get_or ls.records.items c.in_ok-spot.spot.window c.at.result.now) c.list.ensures) c.unwrap-layer.result (sym c.find.ensures.first ∙ c.unwrap-layer.ensures) c.requires.kept c.in_ok-relaid.relaid c.in_ok-relaid.ensures.layers c.area.result.now c.area.ensures c.in_ok-relaying.relaying c.in_ok-relaid.ensures.gained c.in_ok-relaying.ensures part part_is

pub returns : goal.returns
returns g c o others slots whole beside =
    let m = c.args.self.now in
    let n : Texts = record { alloc = m.alloc; list = c.remove-ended.new.self; scrap = m.scrap } in
    let left = disposed _ c.args.text c.args.windows.now c.args.self.now c.in_ok-spot.spot c.in_ok-spot.ensures c.requires.beside c.at.result.now
    (c.at.ensures ∙ ap (λ ls. get_or ls.records.items c.in_ok-spot.spot.window c.at.result.now) c.list.ensures) c.unwrap-layer.result (sym c.find.ensures.first ∙ c.unwrap-layer.ensures) c.requires.kept c.in_ok-relaid.relaid c.in_ok-relaid.ensures.layers c.commit_layers.new.self n c.remove-ended.ensures.items c.remove-ended.ensures.next refl
    c.commit_layers.ensures.set o others slots whole beside in
    (left.0, left.1, (nothing_missing _ c.args.text c.args.windows.now c.args.self.now c.in_ok-spot.spot c.in_ok-spot.ensures, (refl, left.2)))
