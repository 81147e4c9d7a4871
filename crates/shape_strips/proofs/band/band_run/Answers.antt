use Rattle.std.proofs.Common.{◌≡◌, inl, inr, ◌≤ℤ◌, sym, ◌∙◌, arith, SFits, w32, rules}
use Rattle.std.specs.Int.{int_min}
use Rattle.std.proofs.lemmas.Int.{ints, clamps, to_z-of_z}
use Rattle.std.proofs.lemmas.Bool.{and_left}
use Rattle.shape_strips.proofs.BandLemmas.{band_none, band_row, passes_above}
use Rattle.shape_strips.proofs.band.band_run.Goals as goal
use Rattle.shape_strips.proofs.band.band_run.Goals.{then-v-upper-via-then-v-upper, then-v-upper-via-else-v-upper+then-lower-v}

pub returns-then-v-upper : goal.returns-then-v-upper
returns-then-v-upper c =
    let fits_v = c.ranges.v in
    let fits_u : SFits w32 c.args.upper.v = search rules in
    let fits_l : SFits w32 c.args.lower.v = search rules in
    λ h. c.empty.ensures h ∙ sym (and_left _ _ (passes_above c.args.upper c.args.lower (record { h = h; v = c.args.v }) (elim c.then-v-upper.branch [
      | then-v-upper-via-then-v-upper w ↦ inl (let test = simp to_z-of_z at w.if-v-upper.true in grind (arith, ints))
      | then-v-upper-via-else-v-upper+then-lower-v w ↦ inr (let test = simp to_z-of_z at w.if-lower-v.true in grind (arith, ints))
    ])))

pub returns-then-right-left : goal.returns-then-right-left
returns-then-right-left c =
    let fits_r = c.ranges.right in
    let fits_m : SFits w32 c.min-left.result = search rules in
    let least : c.min-left.result ≡ int_min c.args.upper.h c.args.lower.h = search rules in
    let test : c.args.right ≤ℤ c.min-left.result = search (rules, ints) in
    λ h. c.empty-then-right-left.ensures h ∙ sym (band_none c.args.upper c.args.lower (record { h = h; v = c.args.v }) c.args.right (omega (arith, ints)))

pub first_turned-requires-clause-left_in : goal.first_turned-requires-clause-left_in
first_turned-requires-clause-left_in c =
    let fits_m : SFits w32 c.min-left.result = search rules in
    let least : c.min-left.result ≡ int_min c.args.upper.h c.args.lower.h = search rules in
    simp to_z-of_z (omega (arith, ints, clamps), omega (arith, ints, clamps))

pub returns : goal.returns
returns c = λ h.
    let fits_v = c.ranges.v in
    let fits_r = c.ranges.right in
    let fits_m : SFits w32 c.min-left.result = search rules in
    let fits_f : SFits w32 c.first_turned.result = search rules in
    let least : c.min-left.result ≡ int_min c.args.upper.h c.args.lower.h = search rules in
    let edge = simp to_z-of_z at c.first_turned.ensures.edge in
    let low = simp to_z-of_z at c.first_turned.ensures.low in
    simp to_z-of_z (band_row c.args.upper c.args.lower c.min-left.result c.first_turned.result c.args.right h c.args.v least (edge h) low)
