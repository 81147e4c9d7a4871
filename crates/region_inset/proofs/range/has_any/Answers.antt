use Rattle.std.proofs.Common.{◌≡◌, ℤ, pos, ◌+ℤ◌, ◌≤ℤ◌, ◌<ℤ◌, refl, sym, ap, ◌∙◌, rules, arith, SFits, w32, to_z}
use Rattle.std.proofs.lemmas.Bool.{false≢true}
use Rattle.std.proofs.lemmas.Int.{ints, by_lt_z, to_z-of_z}
use Rattle.tb_geom.proofs.RectLemmas.{between-in}
use Rattle.tb_geom.proofs.Steps.{fits_next}
use Rattle.shape_strips.proofs.RangeLemmas.{row_of}
use Rattle.pixel_rows.specs.Columns.{has_column}
use Rattle.region_inset.proofs.range.has_any.Goals as goal

pub loop-h-init : goal.loop-h-init
loop-h-init c =
    let fits_left : SFits w32 c.args.bounds.left = search rules in
    simp to_z-of_z (record { low = omega (arith, ints); none = λ x l m. absurd (omega (arith, ints)) })

pub returns-then-has : goal.returns-then-has
returns-then-has c =
    let fits_right : SFits w32 c.args.bounds.right = search rules in
    let h : ℤ = to_z w32 c.loop-h.h-bits in
    let fits_h : SFits w32 h = search rules in
    let below : h <ℤ c.args.bounds.right = search (rules, ints) in
    (λ _. (h, between-in c.args.bounds.left h c.args.bounds.right c.loop-h.invariant.low below, sym c.has.ensures ∙ c.if-has.true), λ _. refl)

pub loop-h-preserved : goal.loop-h-preserved
loop-h-preserved c =
    let fits_right : SFits w32 c.args.bounds.right = search rules in
    let h : ℤ = to_z w32 c.loop-h.h-bits in
    let fits_h : SFits w32 h = search rules in
    let low = c.loop-h.invariant.low in
    let below : h <ℤ c.args.bounds.right = search (rules, ints) in
    let fits : SFits w32 (h +ℤ pos 1) = fits_next _ _ fits_h fits_right below in
    simp to_z-of_z (record {
      low = omega (arith, ints);
      none = λ x l m. by_lt_z x h (c.loop-h.invariant.none x l)
          (λ n. let e : x ≡ h = omega (arith, ints) in ap (has_column c.args.columns.now) e ∙ sym c.has.ensures ∙ c.if-has.false);
    })

pub returns : goal.returns
returns c =
    let fits_right : SFits w32 c.args.bounds.right = search rules in
    let h : ℤ = to_z w32 c.loop-h.h-bits in
    let past : c.args.bounds.right ≤ℤ h = search (rules, ints) in (
      λ t. absurd (search rules),
      λ one.
          let sides = row_of c.args.bounds.left one.0 c.args.bounds.right one.1 in
          let high = sides.1 in
          absurd (false≢true (sym (c.loop-h.invariant.none one.0 sides.0 (omega (arith, ints))) ∙ one.2)),
    )
