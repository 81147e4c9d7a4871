use Rattle.std.proofs.Common.{◌≡◌, ℤ, pos, neg_ℤ, ◌+ℤ◌, ◌-ℤ◌, ap, ◌∙◌, arith, rules, SFits, w32}
use Rattle.std.proofs.lemmas.Int.{ints, to_z-of_z}
use Rattle.shape_arcs.proofs.WedgeLemmas.{goes_back, goes_on}
use Rattle.shape_arcs.proofs.span.clockwise.Goals as goal

pub returns-then-angle-lt0 : goal.returns-then-angle-lt0
returns-then-angle-lt0 c =
    let fits_start = c.ranges.start in
    let fits_angle = c.ranges.angle in
    let start = simp to_z-of_z at c.from-start.ensures in
    let angle = simp to_z-of_z at c.from-angle.ensures in
    let fits_s : SFits w32 c.from-start.result = search rules in
    let fits_a : SFits w32 c.from-angle.result = search rules in
    let sum : SFits w32 (c.from-start.result +ℤ c.from-angle.result) = search (arith, ints) in
    let back : SFits w32 (pos 0 -ℤ c.from-angle.result) = search (arith, ints) in
    let test = rw angle at (simp to_z-of_z at c.if-angle-lt0.true) in
    simp to_z-of_z (goes_back c.args.start c.args.angle (c.from-start.result +ℤ c.from-angle.result) (pos 0 -ℤ c.from-angle.result) test
    (λ i. start i +ℤ angle i) (minus c.from-angle.result ∙ ap neg_ℤ angle))
  where
    minus : (z : ℤ) → pos 0 -ℤ z ≡ neg_ℤ z
    minus z = omega (arith, ints)

pub returns : goal.returns
returns c =
    let fits_start = c.ranges.start in
    let fits_angle = c.ranges.angle in
    let start = simp to_z-of_z at c.from-start.ensures in
    let angle = simp to_z-of_z at c.from-angle.ensures in
    let fits_s : SFits w32 c.from-start.result = search rules in
    let fits_a : SFits w32 c.from-angle.result = search rules in
    let test = rw angle at (simp to_z-of_z at c.if-angle-lt0.false) in
    simp to_z-of_z (goes_on c.args.start c.args.angle c.from-start.result c.from-angle.result test start angle)
