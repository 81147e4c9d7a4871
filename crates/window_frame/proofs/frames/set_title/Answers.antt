use Rattle.std.proofs.Common.{sym, ◌∙◌}
use Rattle.window_frame.proofs.FrameSteps.{frame_stays_sized, titled, too_long}
use Rattle.window_frame.specs.FrameSteps.{with_title}
use Rattle.window_frame.proofs.frames.set_title.Goals as goal

pub returns-then-is_too_long-clause-step : goal.returns-then-is_too_long-clause-step
returns-then-is_too_long-clause-step g c = λ u. too_long _ c.args.windows.now c.requires c.args.new.now c.in-Some.at c.in-Some.ensures c.as_slice-title.result.now c.as_slice-title.ensures u (sym c.is_too_long.ensures ∙ c.if-is_too_long.true)

pub returns-clause-width : goal.returns-clause-width
returns-clause-width g c = (frame_stays_sized _ c.args.windows.now c.requires c.args.new.now.window c.in-Some.at c.in-Some.ensures _ (with_title c.as_slice-title.result.now) c.notify.new.self c.notify.ensures.told).width

pub returns-clause-height : goal.returns-clause-height
returns-clause-height g c = (frame_stays_sized _ c.args.windows.now c.requires c.args.new.now.window c.in-Some.at c.in-Some.ensures _ (with_title c.as_slice-title.result.now) c.notify.new.self c.notify.ensures.told).height

pub returns-clause-step : goal.returns-clause-step
returns-clause-step g c = λ u. titled _ c.args.windows.now c.requires c.args.new.now c.in-Some.at c.in-Some.ensures c.as_slice-title.result.now c.as_slice-title.ensures u c.notify.new.self (sym c.is_too_long.ensures ∙ c.if-is_too_long.false) c.notify.ensures.told
