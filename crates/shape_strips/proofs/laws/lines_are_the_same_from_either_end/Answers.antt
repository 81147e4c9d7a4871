use Rattle.std.proofs.Common.{◌∙◌}
use Rattle.shape_strips.proofs.LineLemmas.{thin_either}
use Rattle.shape_strips.proofs.LineLaws.{has_end}
use Rattle.shape_strips.proofs.laws.lines_are_the_same_from_either_end.Goals as goal

pub returns-clause-same : goal.returns-clause-same
returns-clause-same c = thin_either

pub returns-clause-ends : goal.returns-clause-ends
returns-clause-ends c = λ a b. (has_end a b, thin_either a b b ∙ has_end b a)
