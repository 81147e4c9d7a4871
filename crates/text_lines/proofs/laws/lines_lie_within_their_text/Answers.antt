use Rattle.text_lines.proofs.FollowLemmas.{line_bounds, lines_few}
use Rattle.text_lines.proofs.laws.lines_lie_within_their_text.Goals as goal

pub returns : goal.returns
returns c = record { within = line_bounds; few = lines_few }
