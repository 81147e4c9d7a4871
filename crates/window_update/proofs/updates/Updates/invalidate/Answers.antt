use Rattle.std.proofs.Common.{inl}
use Rattle.desk_call.specs.declared.update.UpdateCall.TheVariants.{Invalidate}
use Rattle.window_update.specs.declared.marking.Verdict.TheVariants.{Stale}
use Rattle.desk_call.specs.declared.activity.Activity.TheVariants.{Idle}
use Rattle.window_paint.specs.White.{all_white}
use Rattle.window_update.specs.WholeUpdates.{opened}
use Rattle.window_update.proofs.MarkLemmas.{area_low}
use Rattle.window_update.proofs.StepLemmas.{is_refused, is_marked, sides_stay}
use Rattle.window_update.proofs.updates.Updates.invalidate.Goals as goal

pub returns-in-Err-clause-step : goal.returns-in-Err-clause-step
returns-in-Err-clause-step g c = λ shows o. is_refused _ shows c.args.windows.now o (Invalidate c.args.marking.now) c.in-Err.refusal (λ slots. inl c.in-Err.ensures)

pub returns-clause-step : goal.returns-clause-step
returns-clause-step g c = λ shows o.
    let found = c.in-Ok.ensures in
    is_marked _ shows c.args.windows.now c.requires.kept c.args.marking.now c.in-Ok.target.at found.0 c.mark.new.windows o Stale (λ slots. found.2) (area_low _ c.args.windows.now c.requires.kept c.in-Ok.target.at found.0.0) c.mark.result c.mark.ensures

pub returns-clause-width : goal.returns-clause-width
returns-clause-width g c =
    let found = c.in-Ok.ensures in
    (sides_stay _ (λ font. all_white) c.args.windows.now c.requires.kept c.args.marking.now c.in-Ok.target.at found.0 c.mark.new.windows (opened Idle c.args.self.now) Stale c.mark.result c.mark.ensures).0

pub returns-clause-height : goal.returns-clause-height
returns-clause-height g c =
    let found = c.in-Ok.ensures in
    (sides_stay _ (λ font. all_white) c.args.windows.now c.requires.kept c.args.marking.now c.in-Ok.target.at found.0 c.mark.new.windows (opened Idle c.args.self.now) Stale c.mark.result c.mark.ensures).1
