use Rattle.std.proofs.Common.{◌<◌, pos, ◌+ℤ◌, arith, rules, SFits, w32}
use Rattle.std.proofs.lemmas.Int.{ints, to_z-of_z, to_z_pos}
use Rattle.shape_strips.proofs.RangeLemmas.{coordinate_from, sides_in, sum_fits}
use Rattle.shape_arcs.proofs.RayLemmas.{turn_from}
use Rattle.shape_arcs.proofs.ray.first_from.Goals as goal

pub count-columns-requires-clause-low : goal.count-columns-requires-clause-low
count-columns-requires-clause-low c =
    let s = sides_in c.args.rect c.requires.in_range in
    let fits : SFits w32 c.args.rect.left = search rules in
    simp to_z-of_z (coordinate_from c.args.rect.left s.left_low s.left_high)

pub count-columns-requires-clause-high : goal.count-columns-requires-clause-high
count-columns-requires-clause-high c =
    let s = sides_in c.args.rect c.requires.in_range in
    let fits : SFits w32 c.args.rect.right = search rules in
    simp to_z-of_z (coordinate_from c.args.rect.right s.right_low s.right_high)

pub columns_before-requires-clause-all : goal.columns_before-requires-clause-all
columns_before-requires-clause-all c =
    let fits_left : SFits w32 c.args.rect.left = search rules in
    let fits_right : SFits w32 c.args.rect.right = search rules in
    simp to_z-of_z at c.count-columns.ensures.value

pub overflow_cast-result : goal.overflow_cast-result
overflow_cast-result c =
    let most = c.count-columns.ensures.most in
    let few = c.columns_before.ensures.few in
    let less : c.columns_before.result < 32768 = omega (arith, most, few) in
    search (arith, ints)

pub overflow_add-result : goal.overflow_add-result
overflow_add-result c =
    let s = sides_in c.args.rect c.requires.in_range in
    let fits : SFits w32 c.args.rect.left = search rules in
    let most = c.count-columns.ensures.most in
    let few = c.columns_before.ensures.few in
    let cast = to_z_pos w32 c.columns_before.result (omega (arith, most, few)) in
    rw cast (simp to_z-of_z (sum_fits c.args.rect.left c.columns_before.result s.left_low s.left_high (omega (arith, most, few))))

pub returns : goal.returns
returns c =
    let s = sides_in c.args.rect c.requires.in_range in
    let fits_left : SFits w32 c.args.rect.left = search rules in
    let fits_right : SFits w32 c.args.rect.right = search rules in
    let fits_v = c.ranges.v in
    let most = c.count-columns.ensures.most in
    let few = c.columns_before.ensures.few in
    let cast = to_z_pos w32 c.columns_before.result (omega (arith, most, few)) in
    let fits : SFits w32 (c.args.rect.left +ℤ pos c.columns_before.result) = sum_fits c.args.rect.left c.columns_before.result s.left_low s.left_high (omega (arith, most, few)) in
    let value = simp to_z-of_z at c.count-columns.ensures.value in
    let edge = simp to_z-of_z at c.columns_before.ensures.edge in
    rw cast (simp to_z-of_z (turn_from c.args.rect c.args.direction c.args.v c.columns_before.result c.count-columns.result value c.requires.some few edge))
