use Rattle.std.proofs.Common.{◌≡◌, ◌∙◌, sym, rules, true}
use Rattle.tb_geom.specs.Rects.{is_empty_rect, empty_rect}
use Rattle.tb_geom.proofs.RectLemmas.{holds_none}
use Rattle.tb_geom.proofs.rect.Rect.or_zero.Goals as goal

pub returns-then-is_empty-clause-pixels : goal.returns-then-is_empty-clause-pixels
returns-then-is_empty-clause-pixels c =
    let none : is_empty_rect c.args.self ≡ true = sym c.is_empty.ensures.sides ∙ c.if-is_empty.true in
    λ p. holds_none empty_rect (search rules) p ∙ sym (holds_none c.args.self none p)
