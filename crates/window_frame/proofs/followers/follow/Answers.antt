use Rattle.window_frame.proofs.ToldSteps.{caught_up_after}
use Rattle.window_frame.proofs.followers.follow.Goals as goal

pub returns-in_default-clause-told : goal.returns-in_default-clause-told
returns-in_default-clause-told g c = caught_up_after _ c.args.windows.now c.inform_all.new.windows c.args.standing c.in_default.not-Asks c.inform_all.ensures.told
