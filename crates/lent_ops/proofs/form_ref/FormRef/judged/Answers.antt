use Rattle.std.proofs.Common.{inl, refl, ◌∙◌}
use Rattle.shape_strips.specs.Rounds.{no_corner, round_holds}
use Rattle.shape_strips.proofs.LawLemmas.{plain_rect}
use Rattle.lent_ops.proofs.form_ref.FormRef.judged.Goals as goal

pub returns-in-Rect : goal.returns-in-Rect
returns-in-Rect c =
    rw c.in-Rect.is (λ p. c.painted.ensures p
    ∙ (λ i. round_holds c.in-Rect.rect (c.none.ensures i) p)
    ∙ plain_rect c.in-Rect.rect no_corner p (inl refl))
