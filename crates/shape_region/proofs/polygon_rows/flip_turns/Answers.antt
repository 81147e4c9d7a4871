use Rattle.std.proofs.Common.{pos, sym, ◌∙◌}
use Rattle.std.specs.List.{list_all}
use Rattle.std.proofs.lemmas.Bool.{and_parts}
use Rattle.std.proofs.lemmas.Int.{to_z-of_z}
use Rattle.std.proofs.lemmas.List.{at_drop_more, drop_all, drop_more}
use Rattle.tb_geom.specs.declared.point.Point.{Point}
use Rattle.tb_geom.specs.Rects.{in_plane}
use Rattle.shape_region.proofs.PolygonRowLemmas.{one_flipped, all_flipped}
use Rattle.shape_region.proofs.polygon_rows.flip_turns.Goals as goal

pub flip_turn-requires-clause-to_in : goal.flip_turn-requires-clause-to_in
flip_turn-requires-clause-to_in c =
    let origin : Point = record { h = pos 0; v = pos 0 } in
    let rest = sym (at_drop_more (list_all in_plane) c.args.others.now c.loop-point.point-index origin c.loop-point-test.true) ∙ c.loop-point.invariant.rest_in in
    (and_parts _ _ rest).0

pub loop-point-preserved : goal.loop-point-preserved
loop-point-preserved c =
    let fits_v = c.ranges.v in
    let origin : Point = record { h = pos 0; v = pos 0 } in
    let one = drop_more c.args.others.now c.loop-point.point-index origin c.loop-point-test.true in
    let rest = sym (at_drop_more (list_all in_plane) c.args.others.now c.loop-point.point-index origin c.loop-point-test.true) ∙ c.loop-point.invariant.rest_in in
    let both = and_parts _ _ rest in
    let flipped = simp to_z-of_z at c.flip_turn.ensures in
    let so_far = simp to_z-of_z at c.loop-point.invariant.flipped in
    simp to_z-of_z (record {
      last_in = both.0;
      rest_in = both.1;
      flipped = one_flipped c.args.columns.now c.args.from c.args.others.now c.args.to c.args.v c.loop-point.last _ c.loop-point.columns c.flip_turn.new.columns so_far _ _ one flipped;
    })

pub returns : goal.returns
returns c =
    let fits_v = c.ranges.v in
    let end = drop_all c.loop-point.point-index c.args.others.now c.loop-point-test.false in
    let flipped = simp to_z-of_z at c.flip_turn-2.ensures in
    let so_far = simp to_z-of_z at c.loop-point.invariant.flipped in
    all_flipped c.args.columns.now c.args.from c.args.others.now c.args.to c.args.v c.loop-point.last _ c.loop-point.columns c.flip_turn-2.new.columns so_far end flipped
