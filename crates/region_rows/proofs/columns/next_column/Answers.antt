use Rattle.std.proofs.Common.{rules, SFits, w32, arith, ◌∙◌, sym, subst, ◌≡◌}
use Rattle.std.proofs.lemmas.Int.{ints, to_z-of_z}
use Rattle.region_bytes.proofs.Rows.{nil_has}
use Rattle.region_rows.specs.Columns.{seen_column}
use Rattle.region_rows.specs.Edges.{inside}
use Rattle.region_rows.proofs.SeenColumns.{rows_more}
use Rattle.region_rows.proofs.columns.next_column.Goals as goal

pub loop-row-init : goal.loop-row-init
loop-row-init c =
    let fits_h = c.ranges.h in
    let fits_l = c.ranges.limit in
    simp to_z-of_z (record {
      on = c.requires.order;
      up_to = omega (arith, ints);
      steady = λ z v a b. nil_has _ _ ∙ sym (nil_has _ _);
    })

pub loop-row-preserved : goal.loop-row-preserved
loop-row-preserved c =
    let fits_h = c.ranges.h in
    let fits_l = c.ranges.limit in
    let fits_n : SFits w32 c.next_point-first.result = search rules in
    let i = simp to_z-of_z at c.loop-row.invariant in
    let t = simp to_z-of_z at c.next_point-first.ensures in
    simp to_z-of_z (record {
      on = t.on;
      up_to = omega (arith, ints);
      steady = λ z v a b.
          rows_more c.args.rows.now c.loop-row.row-index c.row-item.result _ _ v c.loop-row-test.true c.row-item.is
          (subst (λ xs. inside xs (seen_column c.args.up z) ≡ inside xs (seen_column c.args.up c.args.h)) c.points.ensures (t.steady z a b)) (i.steady z v a (omega (arith, ints)));
    })
