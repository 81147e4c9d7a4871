use Rattle.std.proofs.Common.{◌≤ℤ◌, ◌<ℤ◌, rules, SFits, w32, arith, subst}
use Rattle.std.proofs.lemmas.Int.{ints, clamps, to_z-of_z}
use Rattle.region_rows.proofs.SeenColumns.{point_passed, point_ahead}
use Rattle.region_rows.proofs.columns.nearer.Goals as goal

pub returns-then-column-h-clause-steady : goal.returns-then-column-h-clause-steady
returns-then-column-h-clause-steady c =
    let fits_h = c.ranges.h in
    let fits_f = c.ranges.first in
    let fits_x = c.ranges.x in
    let told = simp to_z-of_z at c.signed-column.ensures in
    let fits_c : SFits w32 c.signed-column.result = search rules in
    let low : c.signed-column.result ≤ℤ c.args.h = search (rules, ints) in
    simp to_z-of_z (λ z a b. point_passed c.args.up c.args.x c.args.h z (subst (λ s. s ≤ℤ c.args.h) told low) a)

pub returns-clause-steady : goal.returns-clause-steady
returns-clause-steady c =
    let fits_h = c.ranges.h in
    let fits_f = c.ranges.first in
    let fits_x = c.ranges.x in
    let told = simp to_z-of_z at c.signed-column.ensures in
    let fits_c : SFits w32 c.signed-column.result = search rules in
    let fits_m : SFits w32 c.min.result = search rules in
    let value = simp to_z-of_z at c.min.ensures.value in
    simp to_z-of_z (λ z a b.
    let before : z <ℤ c.signed-column.result = omega (arith, ints, clamps) in
    point_ahead c.args.up c.args.x c.args.h z a (subst (λ s. z <ℤ s) told before))
