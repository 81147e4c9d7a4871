use Rattle.std.proofs.Common.{refl}
use Rattle.window_frame.proofs.FrameSteps.{stepped, told_stays_sized}
use Rattle.window_frame.proofs.goaway.step_go_away.Goals as goal

pub returns-clause-width : goal.returns-clause-width
returns-clause-width g c = (told_stays_sized _ c.args.windows.now c.requires.kept _ c.args.window c.notify_tracked.new.windows c.notify_tracked.ensures).width

pub returns-clause-height : goal.returns-clause-height
returns-clause-height g c = (told_stays_sized _ c.args.windows.now c.requires.kept _ c.args.window c.notify_tracked.new.windows c.notify_tracked.ensures).height

pub returns-clause-step : goal.returns-clause-step
returns-clause-step g c = λ begun.
    stepped _ c.args.windows.now _ c.args.window c.args.point c.in_ok-inside.inside c.notify_tracked.new.windows refl c.in_ok-inside.ensures.0 c.in_ok-inside.ensures.1 c.notify_tracked.ensures
