use Rattle.std.proofs.Common.{◌∙◌, sym}
use Rattle.std.specs.Cmp.{booleans_Decides}
use Rattle.looks.proofs.SameLemmas.{steps_same}
use Rattle.looks.proofs.same.is_same.Goals as goal

pub returns-then-same_rects-clause-same : goal.returns-then-same_rects-clause-same
returns-then-same_rects-clause-same c = λ e. steps_same c.args.a c.args.b ((booleans_Decides c.args.a.on c.args.b.on).0 c.if-a-b.true) (sym c.same_rects.ensures ∙ c.if-same_rects.true) (sym c.same_marks.ensures ∙ e)
