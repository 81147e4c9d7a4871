use Rattle.text_record.proofs.FoundLemmas.{found_at_place}
use Rattle.text_record.proofs.laws.an_offset_is_found_at_its_place.Goals as goal

pub returns : goal.returns
returns c = found_at_place
