use Rattle.std.proofs.Common.{◌≡◌, ap, sym, ◌∙◌, rules}
use Rattle.tb_geom.specs.Rects.{rect_holds}
use Rattle.region_rows.specs.Rows.{two_rows}
use Rattle.scan_region.proofs.Held.{equal_sides, same_rect, same_sides}
use Rattle.scan_region.proofs.boxed.is_rect.Goals as goal

pub returns-in-Some-clause-pixels : goal.returns-in-Some-clause-pixels
returns-in-Some-clause-pixels c = λ t h v.
    let same : c.in-Some.whole ≡ c.args.rect = same_sides _ _ (sym c.eq.ensures ∙ search rules) in
    c.in-Some.ensures.pixels h v ∙ ap (λ r. rect_holds r (record { h = h; v = v })) same

pub returns-in-Some-clause-exact : goal.returns-in-Some-clause-exact
returns-in-Some-clause-exact c =
    let rows = c.in-Some.ensures.rows in
    (λ t. rows ∙ ap two_rows (same_sides c.in-Some.whole c.args.rect (sym c.eq.ensures ∙ t)), λ e. c.eq.ensures ∙ equal_sides c.in-Some.whole c.args.rect (same_rect c.in-Some.whole c.args.rect (sym rows ∙ e)))
