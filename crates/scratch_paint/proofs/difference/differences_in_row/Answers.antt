use Rattle.std.proofs.Common.{rules, ◌≡◌, ◌+◌, cond, SFits, w32, sym, ap, ◌∙◌, arith}
use Rattle.std.proofs.lemmas.Int.{to_z-of_z}
use Rattle.scratch_paint.proofs.DifferenceLemmas.{row_start, counted_pixel, row_whole}
use Rattle.scratch_paint.proofs.difference.differences_in_row.Goals.{then-differs_at, else-differs_at}
use Rattle.scratch_paint.proofs.difference.differences_in_row.Goals as goal

pub loop-column-init : goal.loop-column-init
loop-column-init g c = record { counted = sym (row_start _ _ c.args.row); few = omega arith }

pub loop-column-preserved : goal.loop-column-preserved
loop-column-preserved g c =
    let old = c.loop-column.count in
    let fits_h : SFits w32 c.from.result = search rules in
    let fits_v : SFits w32 c.from-in-loop-column.result = search rules in
    let counted : c.if-differs_at.count ≡ old + cond c.differs_at.result 1 0 =
    elim c.if-differs_at.branch [
      | then-differs_at w ↦ w.count-is ∙ ap (λ b. old + cond b 1 0) (sym w.if-differs_at.true)
      | else-differs_at w ↦ w.count-is ∙ omega arith ∙ ap (λ b. old + cond b 1 0) (sym w.if-differs_at.false)
    ] in
    record {
      counted = counted_pixel _ _ c.args.row c.loop-column.column old c.if-differs_at.count c.differs_at.result _ _
          c.loop-column.invariant.counted c.differs_at.ensures
          (to_z-of_z w32 c.from.result fits_h ∙ c.from.ensures) (to_z-of_z w32 c.from-in-loop-column.result fits_v ∙ c.from-in-loop-column.ensures) counted;
      few = elim c.if-differs_at.branch [
        | then-differs_at w ↦ omega (arith, w.count-is, c.loop-column.invariant.few)
        | else-differs_at w ↦ omega (arith, w.count-is, c.loop-column.invariant.few)
      ];
    }

pub returns-clause-count : goal.returns-clause-count
returns-clause-count g c =
    let all : c.loop-column.column ≡ c.args.painted.now.width = search rules in
    row_whole _ _ c.args.row c.loop-column.column c.args.painted.now.width c.loop-column.count all c.loop-column.invariant.counted
