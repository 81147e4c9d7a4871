use Rattle.std.proofs.Common.{None, Some, sym, ap, ◌∙◌}
use Rattle.std.specs.Prelude.{is_none}
use Rattle.control_mgr.proofs.Presses.{pressed_on, pressed_on_none, tested_here, tracked_step}
use Rattle.control_mgr.proofs.Tracks.{settled_there, there}
use Rattle.control_mgr.proofs.tracking.Controls+TakenControl.track.Goals as goal

pub part_tested-requires-clause-settled : goal.part_tested-requires-clause-settled
part_tested-requires-clause-settled g c = settled_there _ c.args.self.now c.in_ok-spot.spot.control c.index.result.now c.in_ok-spot.ensures.low c.index.ensures c.requires.beside.whole.settled

pub returns-in-Some-clause-step : goal.returns-in-Some-clause-step
returns-in-Some-clause-step g c begun =
    let spot = c.in_ok-spot.spot in
    let is = c.in_ok-spot.ensures in
    let pressed = c.args.pressed in
    tracked_step _ _ pressed (Some c.in-Some.part) c.args.windows.now c.highlight_part.new.windows c.args.self.now c.highlight_part.new.self spot _ _ is (sym c.is_in_range.ensures ∙ c.if-not-is_in_range.false)
    (tested_here _ _ pressed.control c.args.windows.now c.args.self.now spot is _ pressed.point (Some c.in-Some.part) (there _ c.args.self.now spot.control c.index.result.now is.low c.index.ensures) (sym c.in-Some.is ∙ c.part_tested.ensures))
    (pressed_on _ _ pressed c.in-Some.part c.args.windows.now c.highlight_part.new.windows c.args.self.now c.highlight_part.new.self c.args.activity.now begun
    c.of_part.result c.of_part.ensures (c.highlight_part.ensures.shown pressed.control is))

pub returns-in-None-clause-step : goal.returns-in-None-clause-step
returns-in-None-clause-step g c begun =
    let spot = c.in_ok-spot.spot in
    let is = c.in_ok-spot.ensures in
    let pressed = c.args.pressed in
    tracked_step _ _ pressed None c.args.windows.now c.args.windows.now c.args.self.now c.args.self.now spot _ _ is (sym c.is_in_range.ensures ∙ c.if-not-is_in_range.false)
    (tested_here _ _ pressed.control c.args.windows.now c.args.self.now spot is _ pressed.point None (there _ c.args.self.now spot.control c.index.result.now is.low c.index.ensures) (sym c.in-None.is ∙ c.part_tested.ensures))
    (pressed_on_none _ _ pressed c.args.windows.now c.args.self.now _)

pub returns-in-Some-clause-trackable : goal.returns-in-Some-clause-trackable
returns-in-Some-clause-trackable g c =
    (sym c.is_in_range.ensures ∙ c.if-not-is_in_range.false, ap is_none (c.highlight_part.ensures.there c.args.pressed.control ∙ c.in_ok-spot.ensures.control))
