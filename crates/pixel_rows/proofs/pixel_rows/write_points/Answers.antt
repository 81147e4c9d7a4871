use Rattle.std.proofs.Common.{◌≡◌, not, Bool, List, ℤ, pos, ◌+ℤ◌, ◌≤ℤ◌, ◌<ℤ◌, sym, ap, ◌∙◌, subst, rules, arith, SFits, w32, to_z}
use Rattle.std.proofs.lemmas.Int.{ints, to_z-of_z}
use Rattle.tb_geom.specs.declared.point.Point.{Point}
use Rattle.tb_geom.proofs.Steps.{fits_next}
use Rattle.region_bytes.specs.Writing.{IsWritten}
use Rattle.region_rows.specs.Edges.{differ}
use Rattle.shape_strips.proofs.RangeLemmas.{sides_in, sum_fits}
use Rattle.pixel_rows.specs.Columns.{changes}
use Rattle.pixel_rows.proofs.ChangeLemmas.{AreWrittenTo, alike_beside, none_written, written_none, written_one, all_written}
use Rattle.pixel_rows.proofs.pixel_rows.write_points.Goals.{then-turns, else-turns}
use Rattle.pixel_rows.proofs.pixel_rows.write_points.Goals as goal

pub loop-h-init : goal.loop-h-init
loop-h-init c =
    let fits_v = c.ranges.v in
    let fits_left : SFits w32 c.args.bounds.left = search rules in
    let sides = sides_in c.args.bounds c.requires.in_range in
    let first = sides.left_high in
    let left : ℤ = c.args.bounds.left in
    let right : ℤ = c.args.bounds.right in
    simp to_z-of_z (record {
      low = omega (arith, ints);
      high = omega (arith, ints);
      so_far = λ words points s. none_written left right (changes c.args.above.now c.args.row.now) c.args.v words points _
          (alike_beside left right c.args.above.now c.args.row.now c.requires.above c.requires.row) s;
    })

pub loop-h-preserved : goal.loop-h-preserved
loop-h-preserved c =
    let fits_v = c.ranges.v in
    let fits_left : SFits w32 c.args.bounds.left = search rules in
    let fits_right : SFits w32 c.args.bounds.right = search rules in
    let h : ℤ = to_z w32 c.loop-h.h-bits in
    let fits_h : SFits w32 h = search rules in
    let sides = sides_in c.args.bounds c.requires.in_range in
    let last = sides.right_high in
    let fits_end : SFits w32 (c.args.bounds.right +ℤ pos 1) = sum_fits c.args.bounds.right 1 sides.right_low last (omega arith) in
    let low = c.loop-h.invariant.low in
    let below : h <ℤ (c.args.bounds.right +ℤ pos 1) = search (rules, ints) in
    let fits : SFits w32 (h +ℤ pos 1) = fits_next _ _ fits_h fits_end below in
    let t : ℤ → Bool = changes c.args.above.now c.args.row.now in
    let left : ℤ = c.args.bounds.left in
    let so_far = simp to_z-of_z at c.loop-h.invariant.so_far in
    let here : c.differ-turns.result ≡ differ (t h) c.loop-h.turned = c.differ-turns.ensures ∙ ap (λ b. differ b c.loop-h.turned) c.differs_at.ensures in
    let more : (words : List ℤ) (points : List Point) → IsWritten c.args.out.now words points → AreWrittenTo left (h +ℤ pos 1) t c.if-turns.turned c.args.v words points c.if-turns.out = elim c.if-turns.branch [
      | then-turns w ↦ λ words points s.
          let point = simp to_z-of_z at w.point.ensures in
          subst (λ b. AreWrittenTo left (h +ℤ pos 1) t b c.args.v words points c.if-turns.out) (sym w.turned-is)
          (subst (AreWrittenTo left (h +ℤ pos 1) t (not c.loop-h.turned) c.args.v words points) (sym w.out-is)
          (written_one left h t c.loop-h.turned c.args.v words points c.loop-h.out w.point.new.self (so_far words points s) low (sym here ∙ w.if-turns.true) point))
      | else-turns w ↦ λ words points s.
          subst (λ b. AreWrittenTo left (h +ℤ pos 1) t b c.args.v words points c.if-turns.out) (sym w.turned-is)
          (subst (AreWrittenTo left (h +ℤ pos 1) t c.loop-h.turned c.args.v words points) (sym w.out-is)
          (written_none left h t c.loop-h.turned c.args.v words points c.loop-h.out (so_far words points s) (sym here ∙ w.if-turns.false)))
    ] in
    simp to_z-of_z (record { low = omega (arith, ints); high = omega (arith, ints); so_far = more })

pub point-requires : goal.point-requires
point-requires c =
    let fits_left : SFits w32 c.args.bounds.left = search rules in
    let fits_right : SFits w32 c.args.bounds.right = search rules in
    let h : ℤ = to_z w32 c.loop-h.h-bits in
    let fits_h : SFits w32 h = search rules in
    let sides = sides_in c.args.bounds c.requires.in_range in
    let first = sides.left_low in
    let last = sides.right_high in
    let fits_end : SFits w32 (c.args.bounds.right +ℤ pos 1) = sum_fits c.args.bounds.right 1 sides.right_low last (omega arith) in
    let low = c.loop-h.invariant.low in
    let below : h <ℤ (c.args.bounds.right +ℤ pos 1) = search (rules, ints) in
    (omega (arith, ints), omega (arith, ints))

pub returns : goal.returns
returns c =
    let fits_v = c.ranges.v in
    let fits_right : SFits w32 c.args.bounds.right = search rules in
    let h : ℤ = to_z w32 c.loop-h.h-bits in
    let sides = sides_in c.args.bounds c.requires.in_range in
    let fits_end : SFits w32 (c.args.bounds.right +ℤ pos 1) = sum_fits c.args.bounds.right 1 sides.right_low sides.right_high (omega arith) in
    let past : (c.args.bounds.right +ℤ pos 1) ≤ℤ h = search (rules, ints) in
    let so_far = simp to_z-of_z at c.loop-h.invariant.so_far in
    λ words points s. all_written c.args.bounds.left c.args.bounds.right h (changes c.args.above.now c.args.row.now) c.loop-h.turned c.args.v words points _
    (so_far words points s) (omega (arith, ints)) c.loop-h.invariant.high (sides.left_low, sides.left_high)
    (alike_beside c.args.bounds.left c.args.bounds.right c.args.above.now c.args.row.now c.requires.above c.requires.row)
