use Rattle.std.proofs.Common.{pos, sym, ◌∙◌}
use Rattle.std.specs.List.{list_all}
use Rattle.std.proofs.lemmas.Bool.{and_parts}
use Rattle.std.proofs.lemmas.List.{at_drop_more, drop_all, drop_more}
use Rattle.tb_geom.specs.declared.point.Point.{Point}
use Rattle.shape_strips.specs.Lines.{pen_fits}
use Rattle.shape_region.specs.Polygons.{some_line}
use Rattle.shape_region.proofs.PolygonRowLemmas.{one_line, all_lines}
use Rattle.shape_region.proofs.frame_polygon_rows.lines_bounds.Goals as goal

pub loop-point-preserved : goal.loop-point-preserved
loop-point-preserved c =
    let origin : Point = record { h = pos 0; v = pos 0 } in
    let one = drop_more c.args.others.now c.loop-point.point-index origin c.loop-point-test.true in
    let rest = sym (at_drop_more (list_all (pen_fits c.args.pen)) c.args.others.now c.loop-point.point-index origin c.loop-point-test.true) ∙ c.loop-point.invariant.rest_in in
    let both = and_parts _ _ rest in
    record {
      last_in = both.0;
      rest_in = both.1;
      around = one_line (some_line c.args.from c.args.others.now c.args.to c.args.pen) c.loop-point.last _ c.args.to c.args.pen c.loop-point.bounds _ _ c.loop-point.invariant.around
          c.union-bounds.ensures.exact c.union-bounds.ensures.none _ _ one c.line_bounds.ensures;
    }

pub returns : goal.returns
returns c =
    let end = drop_all c.loop-point.point-index c.args.others.now c.loop-point-test.false in
    all_lines (some_line c.args.from c.args.others.now c.args.to c.args.pen) c.loop-point.last _ c.args.to c.args.pen c.loop-point.bounds _ _ c.loop-point.invariant.around
    c.union.ensures.exact c.union.ensures.none end c.line_bounds-2.ensures
