use Rattle.window_frame.proofs.FrameSteps.{told_apart}
use Rattle.window_frame.proofs.goaway.notify_tracked.Goals as goal

pub returns-in-Some : goal.returns-in-Some
returns-in-Some g c = told_apart _ c.args.windows.now c.requires c.args.window c.in-Some.at c.in-Some.ensures c.notify.new.self c.args.inside c.notify.ensures.told
