use Rattle.std.proofs.Common.{◌<◌, arith, rules, refl, pos, ◌+ℤ◌, SFits, w32, get_or, length}
use Rattle.std.proofs.lemmas.Int.{to_z-of_z}
use Rattle.std.proofs.lemmas.List.{get_or_default}
use Rattle.std.proofs.lemmas.List.Edits.{map_over_more}
use Rattle.region_rows.proofs.InPlace.{unreached, all_reached, coordinate_fits}
use Rattle.region_rows.proofs.row.move_points.Goals as goal

pub loop-x-init : goal.loop-x-init
loop-x-init c = refl

pub overflow_add-x : goal.overflow_add-x
overflow_add-x c =
    let fits_h = c.ranges.dh in
    let fits_x : SFits w32 (get_or c.loop-x.points c.loop-x.x-index (pos 0)) = search rules in
    let so_far = simp to_z-of_z at c.loop-x.invariant in
    let same = unreached (λ x. x +ℤ c.args.dh) c.args.points.now c.loop-x.points c.loop-x.x-index (pos 0) c.loop-x-test.true so_far in
    let range = c.requires c.loop-x.x-index (pos 0) c.loop-x-test.true in
    simp to_z-of_z (rw same (coordinate_fits _ range.0 range.1))

pub loop-x-preserved : goal.loop-x-preserved
loop-x-preserved c =
    let fits_h = c.ranges.dh in
    let fits_x : SFits w32 (get_or c.loop-x.points c.loop-x.x-index (pos 0)) = search rules in
    let so_far = simp to_z-of_z at c.loop-x.invariant in
    let same = unreached (λ x. x +ℤ c.args.dh) c.args.points.now c.loop-x.points c.loop-x.x-index (pos 0) c.loop-x-test.true so_far in
    let range = c.requires c.loop-x.x-index (pos 0) c.loop-x-test.true in
    let fits : SFits w32 (get_or c.loop-x.points c.loop-x.x-index (pos 0) +ℤ c.args.dh) = rw same (coordinate_fits _ range.0 range.1) in
    let within : c.loop-x.x-index < length c.loop-x.points = omega arith in
    simp to_z-of_z (map_over_more (λ x. x +ℤ c.args.dh) c.args.points.now c.loop-x.points c.loop-x.x-index (get_or c.loop-x.points c.loop-x.x-index (pos 0)) c.loop-x-test.true so_far (get_or_default _ _ _ _ within))

pub returns : goal.returns
returns c =
    let fits_h = c.ranges.dh in
    let so_far = simp to_z-of_z at c.loop-x.invariant in
    all_reached (λ x. x +ℤ c.args.dh) c.args.points.now c.loop-x.points c.loop-x.x-index c.loop-x-test.false so_far
