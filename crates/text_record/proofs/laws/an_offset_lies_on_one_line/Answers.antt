use Rattle.text_record.proofs.FoundLemmas.{lies, lies_alone}
use Rattle.text_record.proofs.laws.an_offset_lies_on_one_line.Goals as goal

pub returns : goal.returns
returns c = record { found = lies; alone = lies_alone }
