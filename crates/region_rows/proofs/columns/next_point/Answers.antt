use Rattle.std.proofs.Common.{rules, SFits, w32, refl, pos, get_or, arith, ◌∙◌, sym}
use Rattle.std.proofs.lemmas.Int.{ints, to_z-of_z}
use Rattle.region_bytes.proofs.Edges.{inside-nil}
use Rattle.region_rows.proofs.SeenColumns.{points_more}
use Rattle.region_rows.proofs.columns.next_point.Goals as goal

pub loop-x-init : goal.loop-x-init
loop-x-init c =
    let fits_h = c.ranges.h in
    let fits_l = c.ranges.limit in
    simp to_z-of_z (record {
      on = c.requires.order;
      up_to = omega (arith, ints);
      steady = λ z a b. inside-nil _ ∙ sym (inside-nil _);
    })

pub loop-x-preserved : goal.loop-x-preserved
loop-x-preserved c =
    let fits_h = c.ranges.h in
    let fits_l = c.ranges.limit in
    let fits_x : SFits w32 (get_or c.args.points.now c.loop-x.x-index (pos 0)) = search rules in
    let fits_n : SFits w32 c.nearer-first.result = search rules in
    let i = simp to_z-of_z at c.loop-x.invariant in
    let t = simp to_z-of_z at c.nearer-first.ensures in
    simp to_z-of_z (record {
      on = t.on;
      up_to = omega (arith, ints);
      steady = λ z a b. points_more c.args.points.now c.loop-x.x-index _ _ _ c.loop-x-test.true refl (t.steady z a b) (i.steady z a (omega (arith, ints)));
    })
