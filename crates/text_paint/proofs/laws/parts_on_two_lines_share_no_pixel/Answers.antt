use Rattle.text_paint.proofs.LawLemmas.{apart}
use Rattle.text_paint.proofs.laws.parts_on_two_lines_share_no_pixel.Goals as goal

pub returns : goal.returns
returns c = apart
