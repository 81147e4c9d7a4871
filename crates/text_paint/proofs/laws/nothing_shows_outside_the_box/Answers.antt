use Rattle.text_paint.proofs.LawLemmas.{white_outside}
use Rattle.text_paint.proofs.laws.nothing_shows_outside_the_box.Goals as goal

pub returns : goal.returns
returns c = white_outside
