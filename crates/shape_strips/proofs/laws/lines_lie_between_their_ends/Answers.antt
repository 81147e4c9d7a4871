use Rattle.shape_strips.proofs.LineLemmas.{thin_in}
use Rattle.shape_strips.proofs.laws.lines_lie_between_their_ends.Goals as goal

pub returns : goal.returns
returns c = λ a b p e. let is = thin_in a b p e in (is.left, is.right, is.top, is.bottom)
