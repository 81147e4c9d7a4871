use Rattle.std.proofs.Common.{inl, refl, Some, sym, ◌∙◌}
use Rattle.desk_call.specs.declared.update.UpdateCall.TheVariants.{Validate}
use Rattle.tb_geom.specs.declared.refusal.Refusal.TheVariants.{StalePixels}
use Rattle.window_update.specs.Sets.{judged_set}
use Rattle.window_update.specs.declared.marking.Verdict.TheVariants.{Right}
use Rattle.desk_call.specs.declared.activity.Activity.TheVariants.{Idle}
use Rattle.window_update.specs.WholeUpdates.{opened}
use Rattle.window_update.proofs.MarkLemmas.{area_low}
use Rattle.window_update.proofs.StepLemmas.{is_refused, wrong_pixels, right_pixels, is_marked, sides_stay}
use Rattle.window_update.proofs.updates.Updates.validate.Goals as goal

pub is_right-requires-clause-at : goal.is_right-requires-clause-at
is_right-requires-clause-at g c = c.in-Ok.ensures.0.0

pub returns-in-Err-clause-step : goal.returns-in-Err-clause-step
returns-in-Err-clause-step g c = λ o. is_refused _ (g.S.Showing.shows c.args.layers.now) c.args.windows.now o (Validate c.args.marking.now) c.in-Err.refusal (λ slots. inl (Some c.in-Err.refusal, c.in-Err.ensures, refl))

pub returns-then-not-is_right-clause-step : goal.returns-then-not-is_right-clause-step
returns-then-not-is_right-clause-step g c = λ o.
    let found = c.in-Ok.ensures in
    is_refused _ (g.S.Showing.shows c.args.layers.now) c.args.windows.now o (Validate c.args.marking.now) StalePixels
    (λ slots. inl (wrong_pixels _ (g.S.Showing.shows c.args.layers.now) c.args.windows.now c.requires.kept c.args.marking.now c.in-Ok.target.at found.0 (judged_set c.in-Ok.target.area) found.1 slots found.2 c.is_right.result c.is_right.ensures.right c.if-not-is_right.true))

pub returns-clause-step : goal.returns-clause-step
returns-clause-step g c = λ o.
    let found = c.in-Ok.ensures in
    is_marked _ (g.S.Showing.shows c.args.layers.now) c.args.windows.now c.requires.kept c.args.marking.now c.in-Ok.target.at found.0 c.mark.new.windows o Right
    (λ slots. right_pixels _ (g.S.Showing.shows c.args.layers.now) c.args.windows.now c.requires.kept c.args.marking.now c.in-Ok.target.at found.0 (judged_set c.in-Ok.target.area) found.1 slots found.2 c.is_right.result c.is_right.ensures.right c.if-not-is_right.false)
    (area_low _ c.args.windows.now c.requires.kept c.in-Ok.target.at found.0.0) c.mark.result c.mark.ensures

pub returns-clause-width : goal.returns-clause-width
returns-clause-width g c =
    c.is_right.ensures.width
    ∙ sym (sides_stay _ (g.S.Showing.shows c.args.layers.now) c.args.windows.now c.requires.kept c.args.marking.now c.in-Ok.target.at c.in-Ok.ensures.0 c.mark.new.windows (opened Idle c.args.self.now) Right c.mark.result c.mark.ensures).0

pub returns-clause-height : goal.returns-clause-height
returns-clause-height g c =
    c.is_right.ensures.height
    ∙ sym (sides_stay _ (g.S.Showing.shows c.args.layers.now) c.args.windows.now c.requires.kept c.args.marking.now c.in-Ok.target.at c.in-Ok.ensures.0 c.mark.new.windows (opened Idle c.args.self.now) Right c.mark.result c.mark.ensures).1
