use Rattle.std.proofs.Common.{◌≡◌, Bool, ℤ, pos, ◌+ℤ◌, ◌≤ℤ◌, ◌<ℤ◌, sym, ◌∙◌, ap, subst, rules, arith, SFits, w32, to_z}
use Rattle.std.proofs.lemmas.Int.{ints, to_z-of_z}
use Rattle.tb_geom.proofs.Steps.{fits_next}
use Rattle.region_rows.specs.Edges.{differ}
use Rattle.pixel_rows.specs.Columns.{AreEdgesOf}
use Rattle.pixel_rows.proofs.ColumnLemmas.{column_in}
use Rattle.pixel_rows.proofs.TurnedLemmas.{AreTurnedTo, none_turned_to, one_turned_to, one_passed_to, all_turned}
use Rattle.pixel_rows.proofs.columns.Columns.turned.Goals.{then-within, else-within}
use Rattle.pixel_rows.proofs.columns.Columns.turned.Goals as goal

pub loop-h-init : goal.loop-h-init
loop-h-init c =
    let fits_left : SFits w32 c.args.bounds.left = search rules in
    let left : ℤ = c.args.bounds.left in
    simp to_z-of_z (record {
      low = omega (arith, ints);
      turned = λ row e. none_turned_to row left c.args.bounds.right c.args.self.now e _ c.none-row.ensures;
    })

pub loop-h-preserved : goal.loop-h-preserved
loop-h-preserved c =
    let fits_left : SFits w32 c.args.bounds.left = search rules in
    let fits_right : SFits w32 c.args.bounds.right = search rules in
    let h : ℤ = to_z w32 c.loop-h.h-bits in
    let fits_h : SFits w32 h = search rules in
    let low = c.loop-h.invariant.low in
    let below : h <ℤ c.args.bounds.right = search (rules, ints) in
    let fits : SFits w32 (h +ℤ pos 1) = fits_next _ _ fits_h fits_right below in
    let column = column_in c.args.bounds h c.requires low below in
    let is = c.differ-within.ensures ∙ ap (differ c.loop-h.within) c.has.ensures in
    let so_far = c.loop-h.invariant.turned in
    let more : (row : ℤ → Bool) → AreEdgesOf c.args.self.now c.args.bounds.left c.args.bounds.right row → AreTurnedTo row c.args.bounds.left (h +ℤ pos 1) c.differ-within.result c.if-within.row = λ row e.
    elim c.if-within.branch [
      | then-within w ↦ subst (AreTurnedTo row c.args.bounds.left (h +ℤ pos 1) c.differ-within.result) (sym w.row-is)
          (one_turned_to row c.args.bounds.left c.args.bounds.right c.args.self.now e h c.loop-h.within c.differ-within.result c.loop-h.row w.flip.new.self low below column is w.if-within.true w.flip.ensures (so_far row e))
      | else-within w ↦ subst (AreTurnedTo row c.args.bounds.left (h +ℤ pos 1) c.differ-within.result) (sym w.row-is)
          (one_passed_to row c.args.bounds.left c.args.bounds.right c.args.self.now e h c.loop-h.within c.differ-within.result c.loop-h.row low below is w.if-within.false (so_far row e))
    ] in
    simp to_z-of_z (record { low = omega (arith, ints); turned = more })

pub returns : goal.returns
returns c =
    let fits_right : SFits w32 c.args.bounds.right = search rules in
    let h : ℤ = to_z w32 c.loop-h.h-bits in
    let past : c.args.bounds.right ≤ℤ h = search (rules, ints) in
    λ row e. all_turned row c.args.bounds.left c.args.bounds.right c.args.self.now e h c.loop-h.within _ past (c.loop-h.invariant.turned row e)
