use Rattle.text_lines.proofs.FollowLemmas.{found_lies, lies_found}
use Rattle.text_lines.proofs.laws.an_offset_lies_on_one_line.Goals as goal

pub returns : goal.returns
returns c = record { found = found_lies; alone = lies_found }
