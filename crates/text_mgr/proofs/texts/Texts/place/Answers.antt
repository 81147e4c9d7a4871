use Rattle.std.proofs.Common.{rules, get_or, sym, ap, ◌∙◌, subst}
use Rattle.std.specs.Prelude.{IfSome}
use Rattle.text_mgr.specs.Laying.{IsLieOf}
use Rattle.text_mgr.specs.TextPlaces.{may_stand_at, placing_of}
use Rattle.text_mgr.proofs.NewJudged.{allowed, not_allowed}
use Rattle.text_mgr.proofs.PlacedSo.{may_be_laid, not_placed, place_missing, placed_so}
use Rattle.text_mgr.proofs.Places.{record_there}
use Rattle.text_mgr.proofs.texts.Texts.place.Goals as goal

pub returns-in_err-spot : goal.returns-in_err-spot
returns-in_err-spot g c o =
    place_missing _ c.args.placed c.args.windows.now c.args.self.now c.from_residual.result c.in_err-spot.field-0.0 o (search rules) c.in_err-spot.ensures

pub returns-in_default : goal.returns-in_default
returns-in_default g c o =
    not_placed _ c.args.placed c.args.windows.now c.args.self.now c.in_ok-spot.spot c.in_ok-spot.ensures c.index.result.now c.index.ensures c.is_framed-framed.result c.is_framed-framed.ensures c.at.result.now
    (c.at.ensures ∙ ap (λ ls. get_or ls.records.items c.in_ok-spot.spot.window c.at.result.now) c.list.ensures) c.requires.kept
    (not_allowed (may_stand_at c.is_framed-framed.result c.args.placed.place c.at.result.now.place) (placing_of c.args.placed.place) (sym c.placing_at.ensures ∙ c.in_default.is)) o

pub lay-requires-clause-may : goal.lay-requires-clause-may
lay-requires-clause-may g c =
    let put = allowed (may_stand_at c.is_framed-framed.result c.args.placed.place c.at.result.now.place) (placing_of c.args.placed.place) c.in-Some.placing (sym c.placing_at.ensures ∙ c.in-Some.is) in
    may_be_laid _ c.args.placed c.args.windows.now c.args.self.now c.in_ok-spot.spot c.in_ok-spot.ensures c.index.result.now c.index.ensures c.is_framed-framed.result c.is_framed-framed.ensures c.at.result.now
    (c.at.ensures ∙ ap (λ ls. get_or ls.records.items c.in_ok-spot.spot.window c.at.result.now) c.list.ensures) c.requires.kept (record { placing = c.in-Some.placing; shown = c.lie.result.shown }) put.0 put.1

pub returns : goal.returns
returns g c o =
    let put = allowed (may_stand_at c.is_framed-framed.result c.args.placed.place c.at.result.now.place) (placing_of c.args.placed.place) c.in-Some.placing (sym c.placing_at.ensures ∙ c.in-Some.is) in
    let is = c.in_ok-spot.ensures in
    let it = record_there _ c.args.placed.text c.args.windows.now c.args.self.now c.in_ok-spot.spot is in
    let lie = subst (λ x. IfSome x (IsLieOf c.lie.result)) it.there c.lie.ensures.read in
    placed_so _ c.args.placed c.args.windows.now c.args.self.now c.in_ok-spot.spot c.in_ok-spot.ensures c.index.result.now c.index.ensures c.is_framed-framed.result c.is_framed-framed.ensures c.at.result.now
    (c.at.ensures ∙ ap (λ ls. get_or ls.records.items c.in_ok-spot.spot.window c.at.result.now) c.list.ensures) c.requires.kept (record { placing = c.in-Some.placing; shown = c.lie.result.shown }) put.0 put.1
    lie.shown c.lay.result c.lay.new.windows o o c.lay.new.self (c.lay.ensures c.args.placed.text is o)
