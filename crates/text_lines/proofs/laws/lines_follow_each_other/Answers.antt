use Rattle.text_lines.proofs.FollowLemmas.{lines_follow}
use Rattle.text_lines.proofs.laws.lines_follow_each_other.Goals as goal

pub returns : goal.returns
returns c = lines_follow
