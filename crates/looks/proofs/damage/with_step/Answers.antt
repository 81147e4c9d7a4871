use Rattle.std.proofs.Common.{◌∙◌, sym}
use Rattle.looks.proofs.DamageLemmas.{box_within, outside_both, step_outside}
use Rattle.looks.proofs.damage.with_step.Goals as goal

pub returns-then-is_alike-clause-same : goal.returns-then-is_alike-clause-same
returns-then-is_alike-clause-same c = λ u t same p d out. c.is_alike.ensures.same c.if-is_alike.true u t same p d

pub returns-else-is_alike-clause-before : goal.returns-else-is_alike-clause-before
returns-else-is_alike-clause-before c = λ p out. (outside_both _ _ _ c.union.ensures.exact p (outside_both _ _ _ c.union-else-is_alike.ensures.exact p out).0).0

pub returns-else-is_alike-clause-same : goal.returns-else-is_alike-clause-same
returns-else-is_alike-clause-same c = λ u t same p d out.
    let second = outside_both _ _ _ c.union-else-is_alike.ensures.exact p out in
    let first = outside_both _ _ _ c.union.ensures.exact p second.0 in
    step_outside t p d c.args.new (c.reach_of-else-is_alike.ensures.none t p second.1)
    ∙ sym (step_outside u p d c.args.old (c.reach_of.ensures.none u p first.1))

pub returns-else-is_alike-clause-small : goal.returns-else-is_alike-clause-small
returns-else-is_alike-clause-small c = λ r damage reach.
    let both = reach (sym c.is_alike.ensures.exact ∙ c.if-is_alike.false) in
    box_within _ _ _ r c.union-else-is_alike.ensures.exact
    (box_within _ _ _ r c.union.ensures.exact damage (λ p e. both.0 p (sym (c.reach_of.ensures.exact p) ∙ e)))
    (λ p e. both.1 p (sym (c.reach_of-else-is_alike.ensures.exact p) ∙ e))
