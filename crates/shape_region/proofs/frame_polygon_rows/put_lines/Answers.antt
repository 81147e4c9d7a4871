use Rattle.std.proofs.Common.{pos, sym, ◌∙◌}
use Rattle.std.specs.List.{list_all}
use Rattle.std.proofs.lemmas.Bool.{and_parts}
use Rattle.std.proofs.lemmas.Int.{to_z-of_z}
use Rattle.std.proofs.lemmas.List.{at_drop_more, drop_all, drop_more}
use Rattle.tb_geom.specs.declared.point.Point.{Point}
use Rattle.shape_strips.specs.Lines.{pen_fits}
use Rattle.shape_region.proofs.PolygonRowLemmas.{one_lined, all_lined}
use Rattle.shape_region.proofs.frame_polygon_rows.put_lines.Goals as goal

pub put_line-requires-clause-to_in : goal.put_line-requires-clause-to_in
put_line-requires-clause-to_in c =
    let origin : Point = record { h = pos 0; v = pos 0 } in
    let rest = sym (at_drop_more (list_all (pen_fits c.args.pen)) c.args.others.now c.loop-point.point-index origin c.loop-point-test.true) ∙ c.loop-point.invariant.rest_in in
    (and_parts _ _ rest).0

pub loop-point-preserved : goal.loop-point-preserved
loop-point-preserved c =
    let fits_v = c.ranges.v in
    let origin : Point = record { h = pos 0; v = pos 0 } in
    let one = drop_more c.args.others.now c.loop-point.point-index origin c.loop-point-test.true in
    let rest = sym (at_drop_more (list_all (pen_fits c.args.pen)) c.args.others.now c.loop-point.point-index origin c.loop-point-test.true) ∙ c.loop-point.invariant.rest_in in
    let both = and_parts _ _ rest in
    let put = simp to_z-of_z at c.put_line.ensures in
    let so_far = simp to_z-of_z at c.loop-point.invariant.lined in
    simp to_z-of_z (record {
      last_in = both.0;
      rest_in = both.1;
      lined = one_lined c.args.row.now c.args.from c.args.others.now c.args.to c.args.pen c.args.v c.loop-point.last _ c.loop-point.row c.put_line.new.row so_far _ _ one put;
    })

pub returns : goal.returns
returns c =
    let fits_v = c.ranges.v in
    let end = drop_all c.loop-point.point-index c.args.others.now c.loop-point-test.false in
    let put = simp to_z-of_z at c.put_line-2.ensures in
    let so_far = simp to_z-of_z at c.loop-point.invariant.lined in
    all_lined c.args.row.now c.args.from c.args.others.now c.args.to c.args.pen c.args.v c.loop-point.last _ c.loop-point.row c.put_line-2.new.row so_far end put
