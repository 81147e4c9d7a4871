use Rattle.text_paint.proofs.LawLemmas.{no_caret_beside}
use Rattle.text_paint.proofs.laws.a_caret_shows_at_a_point_alone.Goals as goal

pub returns : goal.returns
returns c = no_caret_beside
