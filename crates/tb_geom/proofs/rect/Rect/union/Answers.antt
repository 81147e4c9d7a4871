use Rattle.std.proofs.Common.{◌≡◌, ◌∙◌, sym, ap, false}
use Rattle.tb_geom.specs.Rects.{is_empty_rect}
use Rattle.tb_geom.proofs.RectLemmas.{holds_none, holds-around, around-smallest, around-some, or_left, or_right, or_first, or_second}
use Rattle.tb_geom.proofs.rect.Rect.union.Goals as goal

pub returns-then-is_empty-clause-exact : goal.returns-then-is_empty-clause-exact
returns-then-is_empty-clause-exact c = record {
  holds = λ p e. c.or_zero.ensures.pixels p ∙ or_second _ _ (holds_none c.args.self (sym c.is_empty.ensures.sides ∙ c.if-is_empty.true) p) e;
  smallest = λ q holds p e. holds p (or_right _ _ (sym (c.or_zero.ensures.pixels p) ∙ e));
}

pub returns-then-is_empty-2-clause-exact : goal.returns-then-is_empty-2-clause-exact
returns-then-is_empty-2-clause-exact c = record {
  holds = λ p e. or_first _ _ (holds_none c.args.other (sym c.is_empty-else-is_empty.ensures.sides ∙ c.if-is_empty-2.true) p) e;
  smallest = λ q holds p e. holds p (or_left _ _ e);
}

pub returns-else-is_empty-2-clause-exact : goal.returns-else-is_empty-2-clause-exact
returns-else-is_empty-2-clause-exact c =
    let some : is_empty_rect c.args.self ≡ false = sym c.is_empty.ensures.sides ∙ c.if-is_empty.false in
    let other_some : is_empty_rect c.args.other ≡ false = sym c.is_empty-else-is_empty.ensures.sides ∙ c.if-is_empty-2.false in
    rw c.around.ensures (record {
      holds = λ p e. holds-around c.args.self c.args.other p e;
      smallest = λ q holds p e. around-smallest c.args.self c.args.other q some other_some holds p e;
    })

pub returns-else-is_empty-2-clause-none : goal.returns-else-is_empty-2-clause-none
returns-else-is_empty-2-clause-none c =
    let some : is_empty_rect c.args.self ≡ false = sym c.is_empty.ensures.sides ∙ c.if-is_empty.false in
    let other_some : is_empty_rect c.args.other ≡ false = sym c.is_empty-else-is_empty.ensures.sides ∙ c.if-is_empty-2.false in
    λ e. absurd (around-some c.args.self c.args.other some other_some (sym (ap is_empty_rect c.around.ensures) ∙ e))
