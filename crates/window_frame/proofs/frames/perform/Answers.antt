use Rattle.std.proofs.Common.{sym, subst}
use Rattle.desk_call.specs.declared.activity.Activity.{Activity}
use Rattle.desk_call.specs.declared.frame.FrameCall.TheVariants as asks
use Rattle.window_mgr.specs.DeskStates.{Opened, LeavesDesk}
use Rattle.window_frame.specs.FrameSteps.{IsFrameStep}
use Rattle.window_frame.proofs.FrameSteps.{of_call}
use Rattle.window_frame.proofs.frames.perform.Goals as goal

pub returns-in-SetTitle-default-clause-step : goal.returns-in-SetTitle-default-clause-step
returns-in-SetTitle-default-clause-step g c = λ begun.
    let o : Opened = record { activity = c.args.activity.now; begun = begun } in
    of_call _ c.args.windows.now c.set_title.new.windows o o c.args.call.now _ c.set_title.result c.in-SetTitle-default.is-0 (c.set_title.ensures.step o)

pub returns-in-Hilite-default-clause-step : goal.returns-in-Hilite-default-clause-step
returns-in-Hilite-default-clause-step g c = λ begun.
    let o : Opened = record { activity = c.args.activity.now; begun = begun } in
    of_call _ c.args.windows.now c.hilite.new.windows o o c.args.call.now _ c.hilite.result c.in-Hilite-default.is-0 (c.hilite.ensures.step o)

pub returns-in-TrackGoAway-default-clause-step : goal.returns-in-TrackGoAway-default-clause-step
returns-in-TrackGoAway-default-clause-step g c = λ begun.
    of_call _ c.args.windows.now c.track_go_away.new.windows (record { activity = c.args.activity.now; begun = begun }) (record { activity = c.track_go_away.new.activity; begun = begun }) c.args.call.now _ c.track_go_away.result c.in-TrackGoAway-default.is-0 (c.track_go_away.ensures.step begun)

pub returns-in-StepGoAway-Tracking-clause-step : goal.returns-in-StepGoAway-Tracking-clause-step
returns-in-StepGoAway-Tracking-clause-step g c = λ begun.
    let o : Opened = record { activity = c.args.activity.now; begun = begun } in
    of_call _ c.args.windows.now c.step_go_away.new.windows o o c.args.call.now _ c.step_go_away.result c.in-StepGoAway-Tracking.is-0
    (subst (λ (a : Activity). LeavesDesk _ (IsFrameStep (asks.StepGoAway c.in-StepGoAway-Tracking.point) c.step_go_away.result) c.args.windows.now (record { activity = a; begun = begun }) c.step_go_away.new.windows (record { activity = a; begun = begun }))
    (sym c.in-StepGoAway-Tracking.is-1) (c.step_go_away.ensures.step begun))

pub returns-in-EndGoAway-Tracking-clause-step : goal.returns-in-EndGoAway-Tracking-clause-step
returns-in-EndGoAway-Tracking-clause-step g c = λ begun.
    of_call _ c.args.windows.now c.end_go_away.new.windows (record { activity = c.args.activity.now; begun = begun }) (record { activity = c.end_go_away.new.activity; begun = begun }) c.args.call.now _ c.end_go_away.result c.in-EndGoAway-Tracking.is-0 (c.end_go_away.ensures.step begun)
