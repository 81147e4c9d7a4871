use Rattle.std.proofs.Common.{rules, refl, subst}
use Rattle.std.specs.Prelude.{IfSome}
use Rattle.text_mgr.specs.Laying.{IsLieOf}
use Rattle.text_mgr.proofs.LaidSteps.{shown_by, shown_missing}
use Rattle.text_mgr.proofs.Places.{record_there}
use Rattle.text_mgr.proofs.Stays.{may_stay}
use Rattle.text_mgr.proofs.texts.Texts.show.Goals as goal

pub returns-in_err-spot : goal.returns-in_err-spot
returns-in_err-spot g c o =
    shown_missing _ c.args.shown c.args.text c.from_residual.result c.in_err-spot.field-0.0 c.args.windows.now o c.args.self.now (search rules) c.in_err-spot.ensures

pub lay-requires-clause-may : goal.lay-requires-clause-may
lay-requires-clause-may g c =
    may_stay _ c.args.text c.args.windows.now c.args.self.now c.in_ok-spot.spot c.in_ok-spot.ensures c.requires.beside c.requires.kept c.lie.result c.lie.ensures.read c.lie.ensures.numbers c.args.shown

pub returns : goal.returns
returns g c o =
    let is = c.in_ok-spot.ensures in
    let it = record_there _ c.args.text c.args.windows.now c.args.self.now c.in_ok-spot.spot is in
    let lie = subst (λ x. IfSome x (IsLieOf c.lie.result)) it.there c.lie.ensures.read in
    shown_by _ c.args.text c.args.windows.now c.args.self.now c.in_ok-spot.spot is _ c.args.shown lie.placing refl c.lay.result c.lay.new.windows o o c.lay.new.self (c.lay.ensures c.args.text is o)
