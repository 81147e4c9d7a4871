use Rattle.text_lines.proofs.StayLemmas.{lines_stay}
use Rattle.text_lines.proofs.laws.the_lines_before_a_change_stay.Goals as goal

pub returns : goal.returns
returns c = lines_stay
