use Rattle.std.proofs.Common.{◌++◌, rules, subst, SFits, w32, get_or, pos}
use Rattle.std.proofs.lemmas.Int.{to_z-of_z}
use Rattle.std.proofs.lemmas.List.{take_all}
use Rattle.region_bytes.specs.Points.{row_points}
use Rattle.region_bytes.specs.Writing.{IsWritten}
use Rattle.region_rows.proofs.WrittenColumns.{columns_none, columns_more}
use Rattle.shape_region.proofs.writing.write_columns.Goals as goal

pub loop-h-init : goal.loop-h-init
loop-h-init c = λ words points s. columns_none _ _ _ s

pub loop-h-preserved : goal.loop-h-preserved
loop-h-preserved c =
    let fits_v = c.ranges.v in
    let fits_h : SFits w32 (get_or c.args.columns.now c.loop-h.h-index (pos 0)) = search rules in
    let more = simp to_z-of_z at c.point.ensures in
    let so_far = simp to_z-of_z at c.loop-h.invariant in
    simp to_z-of_z (λ words points s. columns_more c.loop-h.out c.point.new.self c.args.v c.args.columns.now c.loop-h.h-index words points c.loop-h-test.true (so_far words points s) more)

pub returns : goal.returns
returns c =
    let fits_v = c.ranges.v in
    let so_far = simp to_z-of_z at c.loop-h.invariant in
    let all = take_all c.loop-h.h-index c.args.columns.now c.loop-h-test.false in
    λ words points s. subst (λ xs. IsWritten c.loop-h.out (words ++ xs) (points ++ row_points (c.args.v, xs))) all (so_far words points s)
