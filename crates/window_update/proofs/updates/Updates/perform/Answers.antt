use Rattle.std.proofs.Common.{sym, ap, ◌∙◌}
use Rattle.desk_call.specs.declared.update.UpdateCall.TheVariants.{Validate, Draw}
use Rattle.desk_call.specs.Gates.{update_standing}
use Rattle.window_update.specs.WholeUpdates.{opened}
use Rattle.window_update.proofs.Admitted.{changes_idle, no_update, updates_open}
use Rattle.window_update.proofs.ServeLemmas.{of_call, open_whole}
use Rattle.window_update.proofs.Sides.{closed_whole}
use Rattle.window_update.proofs.StepLemmas.{other_map}
use Rattle.window_update.proofs.updates.Updates.perform.Goals as goal

pub returns-in-Invalidate-clause-step : goal.returns-in-Invalidate-clause-step
returns-in-Invalidate-clause-step g c = of_call _ (g.S.Showing.shows c.args.layers.now) c.args.windows.now c.invalidate.new.windows _ _ c.args.call.now _ c.invalidate.result c.in-Invalidate.is (c.invalidate.ensures.step (g.S.Showing.shows c.args.layers.now) (opened c.args.activity.now c.args.self.now))

pub returns-in-Invalidate-clause-whole : goal.returns-in-Invalidate-clause-whole
returns-in-Invalidate-clause-whole g c =
    closed_whole _ c.args.activity.now c.invalidate.new.windows c.args.self.now
    (no_update c.args.activity.now (changes_idle c.args.activity.now c.args.call.now c.requires.admitted (ap update_standing c.in-Invalidate.is)))
    (c.requires.whole.width ∙ sym c.invalidate.ensures.width) (c.requires.whole.height ∙ sym c.invalidate.ensures.height)

pub returns-in-Validate-clause-step : goal.returns-in-Validate-clause-step
returns-in-Validate-clause-step g c = of_call _ (g.S.Showing.shows c.args.layers.now) c.args.windows.now c.validate.new.windows _ _ c.args.call.now _ c.validate.result c.in-Validate.is
    (other_map _ (g.S.Showing.shows c.args.layers.now) c.args.windows.now c.validate.new.windows c.args.activity.now c.args.self.now c.validate.new.self (Validate c.in-Validate.marking) c.validate.result c.validate.ensures.same (c.validate.ensures.step (opened c.args.activity.now c.args.self.now)))

pub returns-in-Validate-clause-whole : goal.returns-in-Validate-clause-whole
returns-in-Validate-clause-whole g c =
    closed_whole _ c.args.activity.now c.validate.new.windows c.validate.new.self
    (no_update c.args.activity.now (changes_idle c.args.activity.now c.args.call.now c.requires.admitted (ap update_standing c.in-Validate.is)))
    c.validate.ensures.width c.validate.ensures.height

pub returns-in-Begin-clause-step : goal.returns-in-Begin-clause-step
returns-in-Begin-clause-step g c = of_call _ (g.S.Showing.shows c.args.layers.now) c.args.windows.now c.args.windows.now _ _ c.args.call.now _ c.begin.result c.in-Begin.is (c.begin.ensures.step (g.S.Showing.shows c.args.layers.now))

pub draw-requires-clause-whole : goal.draw-requires-clause-whole
draw-requires-clause-whole g c = open_whole _ c.args.windows.now c.args.activity.now _ c.args.self.now (updates_open c.args.activity.now c.in-Draw.drawing.window c.args.call.now c.requires.admitted (ap update_standing c.in-Draw.is)) c.requires.whole

pub returns-in-Draw-clause-whole : goal.returns-in-Draw-clause-whole
returns-in-Draw-clause-whole g c = open_whole _ c.draw.new.windows _ c.args.activity.now c.draw.new.self (sym (updates_open c.args.activity.now c.in-Draw.drawing.window c.args.call.now c.requires.admitted (ap update_standing c.in-Draw.is))) c.draw.ensures.whole

pub returns-in-Draw-clause-step : goal.returns-in-Draw-clause-step
returns-in-Draw-clause-step g c = of_call _ (g.S.Showing.shows c.args.layers.now) c.args.windows.now c.draw.new.windows _ _ c.args.call.now _ c.draw.result c.in-Draw.is
    (other_map _ (g.S.Showing.shows c.args.layers.now) c.args.windows.now c.draw.new.windows c.args.activity.now c.args.self.now c.draw.new.self (Draw c.in-Draw.drawing) c.draw.result c.draw.ensures.same (c.draw.ensures.step (opened c.args.activity.now c.args.self.now)))

pub returns-in-Serve-clause-step : goal.returns-in-Serve-clause-step
returns-in-Serve-clause-step g c = of_call _ (g.S.Showing.shows c.args.layers.now) c.args.windows.now c.serve.new.windows _ _ c.args.call.now _ c.serve.result c.in-Serve.is (c.serve.ensures.step (opened c.args.activity.now c.args.self.now).begun)
