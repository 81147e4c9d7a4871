use Rattle.std.proofs.Common.{arith, rules, get_or, pos, ◌<ℤ◌, SFits, w32}
use Rattle.std.proofs.lemmas.Int.{ints, to_z-of_z}
use Rattle.region_rows.proofs.Gaps.{one_more_left}
use Rattle.shape_region.proofs.pass.place_of.Goals as goal

pub loop-place-preserved : goal.loop-place-preserved
loop-place-preserved c =
    let fits_x = c.ranges.x in
    let s = c.loop-place.invariant in
    let fits : SFits w32 (get_or c.args.columns.now c.loop-place.place (pos 0)) = search rules in
    let here : get_or c.args.columns.now c.loop-place.place (pos 0) <ℤ c.args.x = search (rules, ints) in
    record { within = omega arith; left = simp to_z-of_z (one_more_left _ _ _ (simp to_z-of_z at s.left) here) }
