use Rattle.std.proofs.Common.{◌≡◌, false, ℤ, pos, ◌+ℤ◌, ◌≤ℤ◌, ◌<ℤ◌, inl, inr, sym, ◌∙◌, subst, rules, arith, SFits, w32, to_z}
use Rattle.std.proofs.lemmas.Bool.{cases_Bool, false≢true}
use Rattle.std.proofs.lemmas.Int.{ints, by_lt_z, to_z-of_z}
use Rattle.tb_geom.specs.Rects.{between}
use Rattle.tb_geom.proofs.Steps.{fits_next}
use Rattle.shape_strips.proofs.RangeLemmas.{row_of}
use Rattle.pixel_rows.specs.Columns.{changes}
use Rattle.pixel_rows.proofs.ChangeLemmas.{alike_beside}
use Rattle.pixel_rows.proofs.pixel_rows.has_change.Goals as goal

pub loop-h-init : goal.loop-h-init
loop-h-init c =
    let fits_left : SFits w32 c.args.bounds.left = search rules in
    simp to_z-of_z (λ x l m. absurd (omega (arith, ints)))

pub returns-then-differs_at : goal.returns-then-differs_at
returns-then-differs_at c =
    let h : ℤ = to_z w32 c.loop-h.h-bits in
    let fits_h : SFits w32 h = search rules in
    (λ _. (h, sym c.differs_at.ensures ∙ c.if-differs_at.true), λ _. search rules)

pub loop-h-preserved : goal.loop-h-preserved
loop-h-preserved c =
    let fits_left : SFits w32 c.args.bounds.left = search rules in
    let fits_right : SFits w32 c.args.bounds.right = search rules in
    let h : ℤ = to_z w32 c.loop-h.h-bits in
    let fits_h : SFits w32 h = search rules in
    let below : h <ℤ c.args.bounds.right = search (rules, ints) in
    let fits : SFits w32 (h +ℤ pos 1) = fits_next _ _ fits_h fits_right below in
    let here : changes c.args.above.now c.args.row.now h ≡ false = sym c.differs_at.ensures ∙ c.if-differs_at.false in
    simp to_z-of_z (λ x l m. by_lt_z x h (c.loop-h.invariant x l)
    (λ n. let e : h ≡ x = omega (arith, ints) in subst (λ z. changes c.args.above.now c.args.row.now z ≡ false) e here))

pub returns : goal.returns
returns c =
    let fits_right : SFits w32 c.args.bounds.right = search rules in
    let h : ℤ = to_z w32 c.loop-h.h-bits in
    let past : c.args.bounds.right ≤ℤ h = search (rules, ints) in
    let none : (x : ℤ) → changes c.args.above.now c.args.row.now x ≡ false =
    λ x. elim (cases_Bool (between c.args.bounds.left x c.args.bounds.right)) [
      | inl e ↦ let sides = row_of c.args.bounds.left x c.args.bounds.right e in let last = sides.1 in c.loop-h.invariant x sides.0 (omega (arith, ints))
      | inr e ↦ alike_beside c.args.bounds.left c.args.bounds.right c.args.above.now c.args.row.now c.requires.above c.requires.row x e
    ] in
    (λ t. absurd (search rules), λ one. absurd (false≢true (sym (none one.0) ∙ one.1)))
