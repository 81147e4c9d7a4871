use Rattle.std.proofs.Common.{pos, sym, ◌∙◌, arith}
use Rattle.std.specs.List.{list_all}
use Rattle.std.proofs.lemmas.Bool.{and_parts}
use Rattle.std.proofs.lemmas.Int.{ints, to_z-of_z}
use Rattle.std.proofs.lemmas.List.{at_drop_more, drop_all, drop_more}
use Rattle.tb_geom.specs.declared.point.Point.{Point}
use Rattle.tb_geom.specs.Rects.{in_plane}
use Rattle.shape_region.proofs.CrossLemmas.{none_crossed, one_crossed, all_crossed}
use Rattle.shape_region.proofs.pass.way_crossings.Goals as goal

pub loop-point-init : goal.loop-point-init
loop-point-init c =
    let fits_v = c.ranges.v in
    simp to_z-of_z (record {
      last_in = c.requires.from_in;
      rest_in = c.requires.others_in;
      few = rw c.clear.ensures (omega arith);
      climb = rw c.clear.ensures (omega (arith, ints));
      crossed = rw c.clear.ensures (none_crossed c.args.from c.args.others.now c.args.to c.args.v);
    })

pub meet-requires-clause-to_in : goal.meet-requires-clause-to_in
meet-requires-clause-to_in c =
    let origin : Point = record { h = pos 0; v = pos 0 } in
    let rest = sym (at_drop_more (list_all in_plane) c.args.others.now c.loop-point.point-index origin c.loop-point-test.true) ∙ c.loop-point.invariant.rest_in in
    (and_parts _ _ rest).0

pub loop-point-preserved : goal.loop-point-preserved
loop-point-preserved c =
    let fits_v = c.ranges.v in
    let origin : Point = record { h = pos 0; v = pos 0 } in
    let one = drop_more c.args.others.now c.loop-point.point-index origin c.loop-point-test.true in
    let rest = sym (at_drop_more (list_all in_plane) c.args.others.now c.loop-point.point-index origin c.loop-point-test.true) ∙ c.loop-point.invariant.rest_in in
    let both = and_parts _ _ rest in
    let turned = simp to_z-of_z at c.meet.ensures.pixels in
    let so_far = simp to_z-of_z at c.loop-point.invariant.crossed in
    let few = c.loop-point.invariant.few in
    let more = c.meet.ensures.few in
    simp to_z-of_z (record {
      last_in = both.0;
      rest_in = both.1;
      few = omega arith;
      climb = c.meet.ensures.climb;
      crossed = one_crossed c.args.from c.args.others.now c.args.to c.args.v c.loop-point.last _ c.loop-point.columns.items c.meet.new.columns.items so_far _ _ one turned;
    })

pub returns-clause-pixels : goal.returns-clause-pixels
returns-clause-pixels c =
    let fits_v = c.ranges.v in
    let end = drop_all c.loop-point.point-index c.args.others.now c.loop-point-test.false in
    let turned = simp to_z-of_z at c.meet-2.ensures.pixels in
    let so_far = simp to_z-of_z at c.loop-point.invariant.crossed in
    all_crossed c.args.from c.args.others.now c.args.to c.args.v c.loop-point.last _ c.loop-point.columns.items c.meet-2.new.columns.items so_far end turned
