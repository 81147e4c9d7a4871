use Rattle.std.proofs.Common.{◌≡◌, refl, sym, ◌∙◌, subst}
use Rattle.std.specs.Prelude.{IfSome}
use Rattle.control_mgr.specs.ControlSteps.{released, released_setting}
use Rattle.control_mgr.proofs.Presses.{leaves_alike, let_go_of, not_missing, released_agrees, tracked_here}
use Rattle.control_mgr.proofs.Sets.{state_read}
use Rattle.control_mgr.proofs.tracking.Controls+TakenControl.end.Goals as goal

pub returns-in_err-spot-clause-step : goal.returns-in_err-spot-clause-step
returns-in_err-spot-clause-step g c = absurd (not_missing _ _ c.args.tracked c.args.windows.now c.args.self.now _ c.requires.trackable c.requires.beside c.in_err-spot.ensures)

pub returns-clause-step : goal.returns-clause-step
returns-clause-step g c begun =
    let spot = c.in_ok-spot.spot in
    let is = c.in_ok-spot.ensures in
    let k = c.args.tracked in
    let part = c.tracked_part-part.result in
    let_go_of _ _ k c.args.point part c.args.windows.now c.put.new.windows c.args.self.now c.put.new.self begun c.args.activity.now c.requires.tracking
    (sym c.is_in_range.ensures ∙ c.if-not-is_in_range.false)
    (c.tracked_part-part.ensures ∙ tracked_here _ _ k.control c.args.windows.now c.args.self.now spot is k c.args.point refl)
    (λ o r. leaves_alike _ _ k.control c.args.windows.now c.args.self.now spot is _ (released k c.args.point part) c.put.new.windows c.put.new.self o r
    (λ x e. released_agrees k c.args.point part c.state-state.result _ x (state_read _ _ k.control c.args.windows.now c.args.self.now spot is c.state-state.result c.state-state.ensures x e)
    (subst (λ q. IfSome q (λ y. c.released_values-state.result ≡ released_setting k c.args.point part y)) e c.released_values-state.ensures) c.highlight_after-state.ensures refl)
    (c.put.ensures.put k.control is o r))
