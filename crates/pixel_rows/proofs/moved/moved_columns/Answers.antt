use Rattle.std.proofs.Common.{◌≡◌, Bool, ℤ, pos, ◌-ℤ◌, ◌+ℤ◌, ◌≤ℤ◌, ◌<ℤ◌, sym, ◌∙◌, subst, rules, arith, SFits, w32, to_z}
use Rattle.std.proofs.lemmas.Int.{ints, to_z-of_z}
use Rattle.tb_geom.proofs.Steps.{fits_next}
use Rattle.pixel_rows.specs.Columns.{has_column}
use Rattle.pixel_rows.proofs.ColumnLemmas.{AreKept, none_kept, one_kept, one_passed, all_kept, column_in, word_apart}
use Rattle.pixel_rows.proofs.moved.moved_columns.Goals.{then-has, else-has}
use Rattle.pixel_rows.proofs.moved.moved_columns.Goals as goal

pub loop-h-init : goal.loop-h-init
loop-h-init c =
    let fits_dh = c.ranges.dh in
    let fits_left : SFits w32 c.args.bounds.left = search rules in
    let row : ℤ → Bool = λ x. has_column c.args.columns.now (x -ℤ c.args.dh) in
    simp to_z-of_z (record { low = omega (arith, ints); kept = none_kept row c.args.bounds.left _ c.none-row.ensures })

pub loop-h-preserved : goal.loop-h-preserved
loop-h-preserved c =
    let fits_dh = c.ranges.dh in
    let fits_left : SFits w32 c.args.bounds.left = search rules in
    let fits_right : SFits w32 c.args.bounds.right = search rules in
    let h : ℤ = to_z w32 c.loop-h.h-bits in
    let fits_h : SFits w32 h = search rules in
    let low = c.loop-h.invariant.low in
    let below : h <ℤ c.args.bounds.right = search (rules, ints) in
    let fits : SFits w32 (h +ℤ pos 1) = fits_next _ _ fits_h fits_right below in
    let column = column_in c.args.bounds h c.requires.in_range low below in
    let fits_from : SFits w32 (h -ℤ c.args.dh) = word_apart h c.args.dh column c.requires.across in
    let row : ℤ → Bool = λ x. has_column c.args.columns.now (x -ℤ c.args.dh) in
    let kept = simp to_z-of_z at c.loop-h.invariant.kept in
    let here : c.has.result ≡ row h = simp to_z-of_z at c.has.ensures in
    let more : AreKept row c.args.bounds.left (h +ℤ pos 1) c.if-has.row = elim c.if-has.branch [
      | then-has w ↦ subst (AreKept row c.args.bounds.left (h +ℤ pos 1)) (sym w.row-is) (one_kept row c.args.bounds.left h c.loop-h.row w.flip.new.self kept low column (sym here ∙ w.if-has.true) w.flip.ensures)
      | else-has w ↦ subst (AreKept row c.args.bounds.left (h +ℤ pos 1)) (sym w.row-is) (one_passed row c.args.bounds.left h c.loop-h.row kept (sym here ∙ w.if-has.false))
    ] in
    simp to_z-of_z (record { low = omega (arith, ints); kept = more })

pub overflow_sub-h : goal.overflow_sub-h
overflow_sub-h c =
    let fits_dh = c.ranges.dh in
    let fits_left : SFits w32 c.args.bounds.left = search rules in
    let fits_right : SFits w32 c.args.bounds.right = search rules in
    let h : ℤ = to_z w32 c.loop-h.h-bits in
    let fits_h : SFits w32 h = search rules in
    let low = c.loop-h.invariant.low in
    let below : h <ℤ c.args.bounds.right = search (rules, ints) in
    let fits : SFits w32 (h -ℤ c.args.dh) = word_apart h c.args.dh (column_in c.args.bounds h c.requires.in_range low below) c.requires.across in
    simp to_z-of_z fits

pub returns : goal.returns
returns c =
    let fits_dh = c.ranges.dh in
    let fits_right : SFits w32 c.args.bounds.right = search rules in
    let h : ℤ = to_z w32 c.loop-h.h-bits in
    let past : c.args.bounds.right ≤ℤ h = search (rules, ints) in
    let kept = simp to_z-of_z at c.loop-h.invariant.kept in
    all_kept (λ x. has_column c.args.columns.now (x -ℤ c.args.dh)) c.args.bounds.left c.args.bounds.right h _ kept past c.requires.within
