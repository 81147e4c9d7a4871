use Rattle.window_frame.proofs.FrameSteps.{frame_stays_sized, highlighted}
use Rattle.window_frame.specs.FrameSteps.{with_flag}
use Rattle.window_frame.proofs.frames.hilite.Goals as goal

pub returns-clause-width : goal.returns-clause-width
returns-clause-width g c = (frame_stays_sized _ c.args.windows.now c.requires c.args.change.window c.in-Some.at c.in-Some.ensures _ (with_flag c.args.change.highlighted) c.notify.new.self c.notify.ensures.told).width

pub returns-clause-height : goal.returns-clause-height
returns-clause-height g c = (frame_stays_sized _ c.args.windows.now c.requires c.args.change.window c.in-Some.at c.in-Some.ensures _ (with_flag c.args.change.highlighted) c.notify.new.self c.notify.ensures.told).height

pub returns-clause-step : goal.returns-clause-step
returns-clause-step g c = λ u. highlighted _ c.args.windows.now c.requires c.args.change c.in-Some.at c.in-Some.ensures u c.notify.new.self c.notify.ensures.told
