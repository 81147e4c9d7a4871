use Rattle.text_edits.proofs.EditLemmas.{key_taken_back}
use Rattle.text_edits.proofs.laws.a_typed_byte_is_taken_back.Goals as goal

pub returns : goal.returns
returns c = key_taken_back
