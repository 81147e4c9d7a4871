use Rattle.std.proofs.Common.{◌∙◌, sym, ap}
use Rattle.std.proofs.lemmas.Int.{to_z-of_z}
use Rattle.tb_geom.specs.Rects.{rect_holds}
use Rattle.tb_geom.proofs.RectLemmas.{holds-moved}
use Rattle.tb_geom.proofs.rect.Rect.offset.Goals as goal

pub returns-then-stays_in_range-clause-pixels : goal.returns-then-stays_in_range-clause-pixels
returns-then-stays_in_range-clause-pixels c =
    let fits_h = c.ranges.dh in
    let fits_v = c.ranges.dv in
    let sides = simp to_z-of_z at c.moved.ensures in
    λ p. ap (λ r. rect_holds r p) sides ∙ holds-moved c.args.self c.args.dh c.args.dv p

pub returns-then-stays_in_range-clause-in_range : goal.returns-then-stays_in_range-clause-in_range
returns-then-stays_in_range-clause-in_range c =
    let fits_h = c.ranges.dh in
    let fits_v = c.ranges.dv in
    let fits = simp to_z-of_z at c.stays_in_range.ensures in
    sym c.if-stays_in_range.true ∙ fits
