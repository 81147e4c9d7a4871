use Rattle.std.proofs.Common.{◌≡◌, ◌&&◌, not, take, ap, ◌∙◌, sym}
use Rattle.std.specs.Prelude.{int_le}
use Rattle.std.proofs.lemmas.Int.{to_z-of_z}
use Rattle.std.proofs.lemmas.List.{take_all}
use Rattle.region_bytes.specs.Points.{in_rows}
use Rattle.region_bytes.proofs.Rows.{nil_has}
use Rattle.region_rows.specs.Edges.{differ, inside}
use Rattle.region_rows.proofs.Merged.{in_rows-more}
use Rattle.region_rows.proofs.contains.is_in_rows.Goals as goal
use Rattle.region_rows.proofs.contains.is_in_rows.Goals.{then-turns, else-turns}

pub loop-row-init : goal.loop-row-init
loop-row-init c = sym (nil_has _ _)

pub loop-row-preserved : goal.loop-row-preserved
loop-row-preserved c =
    let fits_h = c.ranges.h in
    let fits_v = c.ranges.v in
    let so_far : c.loop-row.within ≡ in_rows (take c.loop-row.row-index c.args.rows.now) c.args.h c.args.v = simp to_z-of_z at c.loop-row.invariant in
    let more = in_rows-more c.args.rows.now c.loop-row.row-index c.row-item.result c.args.h c.args.v c.loop-row-test.true c.row-item.is in
    let turns : c.turns.result ≡ (int_le c.row-item.result.0 c.args.v && inside c.row-item.result.1 c.args.h) = simp to_z-of_z at c.turns.ensures in
    elim c.if-turns.branch [
      | then-turns w ↦ simp to_z-of_z (w.within-is ∙ ap not so_far ∙ sym (more ∙ (λ i. differ ((sym turns ∙ w.if-turns.true) i) (in_rows (take c.loop-row.row-index c.args.rows.now) c.args.h c.args.v))))
      | else-turns w ↦ simp to_z-of_z (w.within-is ∙ so_far ∙ sym (more ∙ (λ i. differ ((sym turns ∙ w.if-turns.false) i) (in_rows (take c.loop-row.row-index c.args.rows.now) c.args.h c.args.v))))
    ]

pub returns : goal.returns
returns c =
    let fits_h = c.ranges.h in
    let fits_v = c.ranges.v in
    let so_far : c.loop-row.within ≡ in_rows (take c.loop-row.row-index c.args.rows.now) c.args.h c.args.v = simp to_z-of_z at c.loop-row.invariant in
    so_far ∙ ap (λ rows. in_rows rows c.args.h c.args.v) (take_all c.loop-row.row-index c.args.rows.now c.loop-row-test.false)
