use Rattle.std.proofs.Common.{◌<◌, arith, get_or, length}
use Rattle.std.proofs.lemmas.Int.{to_z-of_z}
use Rattle.std.proofs.lemmas.List.{get_or_default}
use Rattle.std.proofs.lemmas.List.Edits.{map_over_more}
use Rattle.tb_geom.specs.declared.point.Point.{Point}
use Rattle.region_rows.specs.Moves.{moved_row}
use Rattle.region_rows.proofs.InPlace.{unreached}
use Rattle.region_rows.proofs.MovedRows.{moved_row_at}
use Rattle.region_rows.proofs.offset.move_rows.Goals as goal

pub offset-requires : goal.offset-requires
offset-requires c =
    let fits_h = c.ranges.dh in
    let fits_v = c.ranges.dv in
    let so_far = simp to_z-of_z at c.loop-row.invariant in
    let d : Point = record { h = c.args.dh; v = c.args.dv } in
    let same = unreached (λ r. moved_row r d) c.args.rows.now c.loop-row.rows c.loop-row.row-index c.row-item.result c.loop-row-test.true so_far in
    simp to_z-of_z (rw same (moved_row_at c.args.rows.now d c.loop-row.row-index c.row-item.result c.loop-row-test.true c.requires))

pub loop-row-preserved : goal.loop-row-preserved
loop-row-preserved c =
    let fits_h = c.ranges.dh in
    let fits_v = c.ranges.dv in
    let so_far = simp to_z-of_z at c.loop-row.invariant in
    let moved = simp to_z-of_z at c.offset.ensures in
    let d : Point = record { h = c.args.dh; v = c.args.dv } in
    let within : c.loop-row.row-index < length c.loop-row.rows = omega arith in
    simp to_z-of_z (rw moved (map_over_more (λ r. moved_row r d) c.args.rows.now c.loop-row.rows c.loop-row.row-index (get_or c.loop-row.rows c.loop-row.row-index c.row-item.result) c.loop-row-test.true so_far (get_or_default _ _ _ _ within)))
