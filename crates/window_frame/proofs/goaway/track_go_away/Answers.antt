use Rattle.std.proofs.Common.{refl, sym, ◌∙◌, true}
use Rattle.desk_call.specs.declared.activity.Activity.TheVariants.{Tracking}
use Rattle.window_frame.proofs.FrameSteps.{begun, not_begun, no_point, told_apart, told_stays_sized}
use Rattle.window_frame.proofs.goaway.track_go_away.Goals as goal

pub returns-in-Ok-true-clause-width : goal.returns-in-Ok-true-clause-width
returns-in-Ok-true-clause-width g c = (told_stays_sized _ c.args.windows.now c.requires.kept _ c.args.pressed.window c.notify.new.self
    (told_apart _ c.args.windows.now c.requires.kept c.args.pressed.window c.in-Some.at c.in-Some.ensures c.notify.new.self true c.notify.ensures.told)).width

pub returns-in-Ok-true-clause-height : goal.returns-in-Ok-true-clause-height
returns-in-Ok-true-clause-height g c = (told_stays_sized _ c.args.windows.now c.requires.kept _ c.args.pressed.window c.notify.new.self
    (told_apart _ c.args.windows.now c.requires.kept c.args.pressed.window c.in-Some.at c.in-Some.ensures c.notify.new.self true c.notify.ensures.told)).height

pub returns-in-Ok-true-clause-step : goal.returns-in-Ok-true-clause-step
returns-in-Ok-true-clause-step g c = λ pending.
    begun _ c.args.windows.now c.requires.kept c.args.pressed c.in-Some.at c.in-Some.ensures (record { activity = c.args.activity.now; begun = pending }) (record { activity = Tracking c.args.pressed.window; begun = pending }) c.notify.new.self c.in-Ok-true.ensures.0 (sym c.in-Ok-true.field-0-test ∙ c.in-Ok-true.ensures.1)
    refl (told_apart _ c.args.windows.now c.requires.kept c.args.pressed.window c.in-Some.at c.in-Some.ensures c.notify.new.self true c.notify.ensures.told)

pub returns-in-Ok-false-clause-step : goal.returns-in-Ok-false-clause-step
returns-in-Ok-false-clause-step g c = λ pending.
    not_begun _ c.args.windows.now c.requires.kept c.args.pressed c.in-Some.at c.in-Some.ensures _ c.in-Ok-false.ensures.0 (sym c.in-Ok-false.field-0-test ∙ c.in-Ok-false.ensures.1)

pub returns-in-Err-clause-step : goal.returns-in-Err-clause-step
returns-in-Err-clause-step g c = λ pending. no_point _ c.args.windows.now c.requires.kept c.args.pressed c.in-Some.at c.in-Some.ensures _ c.in-Err.refusal c.in-Err.ensures.0 c.in-Err.ensures.1
