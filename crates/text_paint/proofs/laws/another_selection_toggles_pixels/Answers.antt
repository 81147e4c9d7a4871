use Rattle.text_paint.proofs.LawLemmas.{toggled_shown}
use Rattle.text_paint.proofs.laws.another_selection_toggles_pixels.Goals as goal

pub returns : goal.returns
returns c = toggled_shown
