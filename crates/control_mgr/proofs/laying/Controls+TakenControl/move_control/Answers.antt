use Rattle.std.proofs.Common.{refl, ◌∙◌}
use Rattle.control_mgr.specs.Fields.{with_place}
use Rattle.desk_call.specs.declared.control.ControlCall.TheVariants as asks
use Rattle.control_mgr.proofs.Moves.{go_judged, laid_step, place_agrees}
use Rattle.control_mgr.proofs.Places.{read_is, there_is}
use Rattle.control_mgr.proofs.Sets.{number_fits, number_refused}
use Rattle.control_mgr.proofs.Steps.{refused}
use Rattle.control_mgr.proofs.laying.Controls+TakenControl.move_control.Goals as goal

pub returns-then-not-may_lie : goal.returns-then-not-may_lie
returns-then-not-may_lie g c o =
    let asked = c.args.moved in
    let spot = c.in_ok-spot.spot in
    let is = c.in_ok-spot.ensures in
    let w = there_is c.args.windows.now.windows.records.items spot.window is.window.0 in
    refused _ _ (asks.Move asked) _ c.args.windows.now o c.args.self.now
    (λ others slots kept. number_refused _ _ asked.control c.args.windows.now c.args.self.now spot is _
    (go_judged _ _ asked.control c.args.windows.now c.args.self.now spot is c.requires.kept asked.place c.may_lie.result c.lie.result c.lie.ensures c.may_lie.ensures w.item (read_is c.args.windows.now.windows.records.items spot.window w.item w.there) ∙ c.if-not-may_lie.true))

pub returns : goal.returns
returns g c o =
    let asked = c.args.moved in
    let spot = c.in_ok-spot.spot in
    let is = c.in_ok-spot.ensures in
    let w = there_is c.args.windows.now.windows.records.items spot.window is.window.0 in
    laid_step _ _ asked.control c.args.windows.now c.args.self.now spot is (asks.Move asked) _ (with_place asked.place) c.lay.result c.lay.new.windows c.lay.new.self o refl
    (λ others slots kept. number_fits _ _ asked.control c.args.windows.now c.args.self.now spot is _
    (go_judged _ _ asked.control c.args.windows.now c.args.self.now spot is c.requires.kept asked.place c.may_lie.result c.lie.result c.lie.ensures c.may_lie.ensures w.item (read_is c.args.windows.now.windows.records.items spot.window w.item w.there) ∙ c.if-not-may_lie.false))
    (place_agrees _ _ asked.control c.args.windows.now c.args.self.now spot is c.lie.result asked.place c.lie.ensures)
    (λ answer before after e h. (e, h))
    (c.lay.ensures asked.control is o)
