use Rattle.std.proofs.Common.{◌≡◌, rules, arith, ℤ, pos, ◌+ℤ◌, ◌≤ℤ◌, ◌<ℤ◌, SFits, w32, to_z, refl, sym, ◌∙◌, ◌&&◌, true}
use Rattle.std.proofs.lemmas.Bool.{and_parts}
use Rattle.std.proofs.lemmas.Int.{ints, to_z-of_z}
use Rattle.tb_geom.specs.declared.point.Point.{Point}
use Rattle.tb_geom.specs.Points.{minus}
use Rattle.bit_blit.specs.Draws.{in_row}
use Rattle.tb_geom.proofs.Steps.{fits_next}
use Rattle.bit_blit.proofs.WalkLemmas.{in_row-at, in_row-end}
use Rattle.scan_region.specs.Scan.{span_holds}
use Rattle.window_update.specs.Sets.{judged_set}
use Rattle.window_update.proofs.RightLemmas.{agree_step, differ_there}
use Rattle.window_update.proofs.right.agree_in_row.Goals as goal

none_yet : (v left : ℤ) (p : Point) → in_row v left left p ≡ true → ⊥
none_yet v left p e = grind (arith, ints)

pub loop-h-init : goal.loop-h-init
loop-h-init c =
    let fits_l : SFits w32 c.args.span.left = search rules in
    simp to_z-of_z (record {
      low = omega (arith, ints);
      high = λ e. e;
      none = λ e. refl;
      same = λ (p : Point) e. absurd (none_yet c.args.span.v c.args.span.left p (and_parts (in_row c.args.span.v c.args.span.left c.args.span.left p) (judged_set c.args.area.now (minus p c.args.place)) e).0);
    })

pub differ_at-requires-clause-plane : goal.differ_at-requires-clause-plane
differ_at-requires-clause-plane c =
    let fits_v : SFits w32 c.args.span.v = search rules in
    let fits_l : SFits w32 c.args.span.left = search rules in
    let fits_r : SFits w32 c.args.span.right = search rules in
    let h : ℤ = to_z w32 c.loop-h.h-bits in
    let low : c.args.span.left ≤ℤ h = omega (arith, ints, c.loop-h.invariant.low) in
    let below : h <ℤ c.args.span.right = search (rules, ints) in
    simp to_z-of_z (c.requires.plane (record { h = h; v = c.args.span.v }) (in_row-at c.args.span.v c.args.span.left h c.args.span.right low below))

pub returns-then-differ_at : goal.returns-then-differ_at
returns-then-differ_at c =
    let fits_v : SFits w32 c.args.span.v = search rules in
    let fits_l : SFits w32 c.args.span.left = search rules in
    let fits_r : SFits w32 c.args.span.right = search rules in
    let h : ℤ = to_z w32 c.loop-h.h-bits in
    let low : c.args.span.left ≤ℤ h = omega (arith, ints, c.loop-h.invariant.low) in
    let below : h <ℤ c.args.span.right = search (rules, ints) in
    let differs = simp to_z-of_z at c.if-differ_at.ensures in
    differ_there c.args.screen.now c.args.image.now (span_holds c.args.span) (λ (p : Point). judged_set c.args.area.now (minus p c.args.place)) (record { h = h; v = c.args.span.v }) (in_row-at c.args.span.v c.args.span.left h c.args.span.right low below) (sym differs)

pub loop-h-preserved : goal.loop-h-preserved
loop-h-preserved c =
    let fits_v : SFits w32 c.args.span.v = search rules in
    let fits_l : SFits w32 c.args.span.left = search rules in
    let fits_r : SFits w32 c.args.span.right = search rules in
    let h : ℤ = to_z w32 c.loop-h.h-bits in
    let low : c.args.span.left ≤ℤ h = omega (arith, ints, c.loop-h.invariant.low) in
    let fits_h : SFits w32 h = search rules in
    let below : h <ℤ c.args.span.right = search (rules, ints) in
    let fits : SFits w32 (h +ℤ pos 1) = fits_next _ _ fits_h fits_r below in
    let differs = simp to_z-of_z at c.if-differ_at.ensures in
    simp to_z-of_z (record {
      low = omega (arith, ints);
      high = λ e. omega (arith, ints);
      none = λ e. omega (arith, ints);
      same = agree_step c.args.screen.now c.args.image.now (λ (p : Point). judged_set c.args.area.now (minus p c.args.place)) c.args.span.v c.args.span.left h c.loop-h.invariant.same (sym differs);
    })

pub returns : goal.returns
returns c =
    let fits_v : SFits w32 c.args.span.v = search rules in
    let fits_l : SFits w32 c.args.span.left = search rules in
    let fits_r : SFits w32 c.args.span.right = search rules in
    let h : ℤ = to_z w32 c.loop-h.h-bits in
    let all = c.loop-h.invariant in
    let end : c.args.span.right ≤ℤ h = search (rules, ints) in
    λ (p : Point) e. all.same p ((λ i. in_row-end c.args.span.v c.args.span.left h c.args.span.right p end all.high all.none i && judged_set c.args.area.now (minus p c.args.place)) ∙ e)
