use Rattle.std.proofs.Common.{refl, sym, ap, ◌∙◌}
use Rattle.std.specs.Prelude.{is_none}
use Rattle.control_mgr.proofs.Presses.{not_missing, stepped, tracked_here}
use Rattle.control_mgr.proofs.tracking.Controls+TakenControl.step.Goals as goal

pub returns-in_err-spot-clause-step : goal.returns-in_err-spot-clause-step
returns-in_err-spot-clause-step g c = absurd (not_missing _ _ c.args.tracked c.args.windows.now c.args.self.now _ c.requires.trackable c.requires.beside c.in_err-spot.ensures)

pub returns-clause-step : goal.returns-clause-step
returns-clause-step g c begun =
    let spot = c.in_ok-spot.spot in
    let is = c.in_ok-spot.ensures in
    stepped _ _ c.args.tracked c.args.point c.tracked_part-part.result c.args.windows.now c.highlight_part.new.windows c.args.self.now c.highlight_part.new.self begun c.highlight_of.result
    (sym c.is_in_range.ensures ∙ c.if-not-is_in_range.false)
    (c.tracked_part-part.ensures ∙ tracked_here _ _ c.args.tracked.control c.args.windows.now c.args.self.now spot is c.args.tracked c.args.point refl)
    c.highlight_of.ensures (c.highlight_part.ensures.shown c.args.tracked.control is)

pub returns-clause-trackable : goal.returns-clause-trackable
returns-clause-trackable g c = (c.requires.trackable.0, ap is_none (c.highlight_part.ensures.there c.args.tracked.control) ∙ c.requires.trackable.1)
