use Rattle.text_paint.proofs.LawLemmas.{no_selection, no_caret}
use Rattle.text_paint.proofs.laws.an_inactive_record_shows_no_selection.Goals as goal

pub returns : goal.returns
returns c = record { selection = no_selection; caret = no_caret }
