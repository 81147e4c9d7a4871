use Rattle.text_edits.proofs.EditLemmas.{cut_pasted}
use Rattle.text_edits.proofs.laws.a_cut_is_pasted.Goals as goal

pub returns : goal.returns
returns c = cut_pasted
