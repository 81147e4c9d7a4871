use Rattle.std.proofs.Common.{◌≡◌, ℤ, pos, negsuc, ◌+ℤ◌, ◌-ℤ◌, ◌≤ℤ◌, ◌<ℤ◌, refl, sym, ap, ◌∙◌, rules, arith, SFits, w32, to_z}
use Rattle.std.proofs.lemmas.Bool.{false≢true}
use Rattle.std.proofs.lemmas.Int.{ints, by_lt_z, to_z-of_z}
use Rattle.tb_geom.specs.Pixels.{holds}
use Rattle.region_inset.specs.Insets.{inset}
use Rattle.region_inset.proofs.ReachLemmas.{next_fits}
use Rattle.region_inset.proofs.range.meets_column.Goals as goal

pub returns-then-inset_has : goal.returns-then-inset_has
returns-then-inset_has c =
    let fits_h = c.ranges.h in
    let fits_dh = c.ranges.dh in
    let fits_dv = c.ranges.dv in
    let has = simp to_z-of_z at c.inset_has.ensures in
    (λ _. (negsuc 16384, (omega (arith, ints), omega (arith, ints)), sym has ∙ c.if-inset_has.true), λ _. refl)

pub loop-v-init : goal.loop-v-init
loop-v-init c =
    let fits_h = c.ranges.h in
    let fits_dh = c.ranges.dh in
    let fits_dv = c.ranges.dv in
    let has = simp to_z-of_z at c.inset_has.ensures in
    simp to_z-of_z (record {
      low = omega (arith, ints);
      high = omega (arith, ints);
      none = λ w l m.
          let e : w ≡ negsuc 16384 = omega (arith, ints) in
          ap (λ z. inset (holds c.args.region.now) c.args.dh c.args.dv (record { h = c.args.h; v = z })) e ∙ sym has ∙ c.if-inset_has.false;
    })

pub turns_to-requires-clause-row : goal.turns_to-requires-clause-row
turns_to-requires-clause-row c =
    let v : ℤ = to_z w32 c.loop-v.v-bits in
    let low = c.loop-v.invariant.low in
    let below : v <ℤ pos 16384 = search (rules, ints) in
    (omega (arith, ints), omega (arith, ints))

pub turns_to-requires-clause-above : goal.turns_to-requires-clause-above
turns_to-requires-clause-above c =
    let fits_h = c.ranges.h in
    let fits_dh = c.ranges.dh in
    let fits_dv = c.ranges.dv in
    let v : ℤ = to_z w32 c.loop-v.v-bits in
    let low = c.loop-v.invariant.low in
    let none = simp to_z-of_z at c.loop-v.invariant.none in
    simp to_z-of_z (none (v -ℤ pos 1) (omega (arith, ints)) (omega (arith, ints)))

pub returns-then-turns_to : goal.returns-then-turns_to
returns-then-turns_to c =
    let fits_h = c.ranges.h in
    let fits_dh = c.ranges.dh in
    let fits_dv = c.ranges.dv in
    let v : ℤ = to_z w32 c.loop-v.v-bits in
    let low = c.loop-v.invariant.low in
    let below : v <ℤ pos 16384 = search (rules, ints) in
    let has = simp to_z-of_z at c.turns_to.ensures in
    (λ _. (v, (omega (arith, ints), omega (arith, ints)), sym has ∙ c.if-turns_to.true), λ _. refl)

pub loop-v-preserved : goal.loop-v-preserved
loop-v-preserved c =
    let fits_h = c.ranges.h in
    let fits_dh = c.ranges.dh in
    let fits_dv = c.ranges.dv in
    let v : ℤ = to_z w32 c.loop-v.v-bits in
    let fits_v : SFits w32 v = search rules in
    let low = c.loop-v.invariant.low in
    let below : v <ℤ pos 16384 = search (rules, ints) in
    let fits : SFits w32 (v +ℤ pos 1) = next_fits v fits_v (omega (arith, ints)) in
    let none = simp to_z-of_z at c.loop-v.invariant.none in
    let has = simp to_z-of_z at c.turns_to.ensures in
    simp to_z-of_z (record {
      low = omega (arith, ints);
      high = omega (arith, ints);
      none = λ w l m. by_lt_z w v (none w l)
          (λ n.
          let e : w ≡ v = omega (arith, ints) in
          ap (λ z. inset (holds c.args.region.now) c.args.dh c.args.dv (record { h = c.args.h; v = z })) e ∙ sym has ∙ c.if-turns_to.false);
    })

pub returns : goal.returns
returns c =
    let fits_h = c.ranges.h in
    let fits_dh = c.ranges.dh in
    let fits_dv = c.ranges.dv in
    let v : ℤ = to_z w32 c.loop-v.v-bits in
    let past : pos 16384 ≤ℤ v = search (rules, ints) in
    let none = simp to_z-of_z at c.loop-v.invariant.none in (
      λ t. absurd (search rules),
      λ one. let high = one.1.1 in absurd (false≢true (sym (none one.0 one.1.0 (omega (arith, ints))) ∙ one.2)),
    )
