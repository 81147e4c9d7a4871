use Rattle.std.proofs.Common.{◌≡◌, ◌∙◌, pos, ◌-ℤ◌, ◌+ℤ◌, ◌*ℤ◌, SFits, w32, w64, rules}
use Rattle.std.proofs.lemmas.Int.{to_z-of_z}
use Rattle.shape_strips.proofs.BandLemmas.{are_small, passes_column}
use Rattle.shape_strips.proofs.band.first_turned.Goals as goal

pub overflow_mul-down-2 : goal.overflow_mul-down-2
overflow_mul-down-2 c =
    let fits_v = c.ranges.v in
    let fits_uh : SFits w32 c.args.upper.h = search rules in
    let fits_1 : SFits w64 c.from.result = search rules in
    let fits_2 : SFits w64 c.from-2.result = search rules in
    let fits_3 : SFits w64 c.from-3.result = search rules in
    let fits_4 : SFits w64 c.from-4.result = search rules in
    let fits_5 : SFits w64 c.from-5.result = search rules in
    let fits_6 : SFits w64 c.from-6.result = search rules in
    let a : c.from.result ≡ c.args.lower.v = search rules in
    let b : c.from-2.result ≡ c.args.upper.v = search rules in
    let d : c.from-3.result ≡ c.args.lower.h = search rules in
    let e : c.from-4.result ≡ c.args.upper.h = search rules in
    let f : c.from-5.result ≡ c.args.v = search rules in
    let g : c.from-6.result ≡ c.args.upper.v = search rules in
    let s = are_small c.args.upper c.args.lower c.args.v c.requires.upper_in c.requires.lower_in c.requires.top c.requires.bottom in
    let height : SFits w64 (c.from.result -ℤ c.from-2.result) = rw (a, b) s.height in
    let width : SFits w64 (c.from-3.result -ℤ c.from-4.result) = rw (d, e) s.width in
    let down : SFits w64 (c.from-5.result -ℤ c.from-6.result) = rw (f, g) s.down in
    let step : SFits w64 (pos 2 *ℤ (c.from.result -ℤ c.from-2.result)) = rw (a, b) s.step in
    let twice : SFits w64 (pos 2 *ℤ (c.from-5.result -ℤ c.from-6.result)) = rw (f, g) s.twice in
    let odd : SFits w64 ((pos 2 *ℤ (c.from-5.result -ℤ c.from-6.result)) +ℤ pos 1) = rw (f, g) s.odd in
    let across : SFits w64 (((pos 2 *ℤ (c.from-5.result -ℤ c.from-6.result)) +ℤ pos 1) *ℤ (c.from-3.result -ℤ c.from-4.result)) = rw (d, e, f, g) s.across in
    let least : SFits w64 ((((pos 2 *ℤ (c.from-5.result -ℤ c.from-6.result)) +ℤ pos 1) *ℤ (c.from-3.result -ℤ c.from-4.result)) -ℤ (c.from.result -ℤ c.from-2.result)) = rw (a, b, d, e, f, g) s.least in
    simp to_z-of_z across

pub overflow_sub-down-2 : goal.overflow_sub-down-2
overflow_sub-down-2 c =
    let fits_v = c.ranges.v in
    let fits_uh : SFits w32 c.args.upper.h = search rules in
    let fits_1 : SFits w64 c.from.result = search rules in
    let fits_2 : SFits w64 c.from-2.result = search rules in
    let fits_3 : SFits w64 c.from-3.result = search rules in
    let fits_4 : SFits w64 c.from-4.result = search rules in
    let fits_5 : SFits w64 c.from-5.result = search rules in
    let fits_6 : SFits w64 c.from-6.result = search rules in
    let a : c.from.result ≡ c.args.lower.v = search rules in
    let b : c.from-2.result ≡ c.args.upper.v = search rules in
    let d : c.from-3.result ≡ c.args.lower.h = search rules in
    let e : c.from-4.result ≡ c.args.upper.h = search rules in
    let f : c.from-5.result ≡ c.args.v = search rules in
    let g : c.from-6.result ≡ c.args.upper.v = search rules in
    let s = are_small c.args.upper c.args.lower c.args.v c.requires.upper_in c.requires.lower_in c.requires.top c.requires.bottom in
    let height : SFits w64 (c.from.result -ℤ c.from-2.result) = rw (a, b) s.height in
    let width : SFits w64 (c.from-3.result -ℤ c.from-4.result) = rw (d, e) s.width in
    let down : SFits w64 (c.from-5.result -ℤ c.from-6.result) = rw (f, g) s.down in
    let step : SFits w64 (pos 2 *ℤ (c.from.result -ℤ c.from-2.result)) = rw (a, b) s.step in
    let twice : SFits w64 (pos 2 *ℤ (c.from-5.result -ℤ c.from-6.result)) = rw (f, g) s.twice in
    let odd : SFits w64 ((pos 2 *ℤ (c.from-5.result -ℤ c.from-6.result)) +ℤ pos 1) = rw (f, g) s.odd in
    let across : SFits w64 (((pos 2 *ℤ (c.from-5.result -ℤ c.from-6.result)) +ℤ pos 1) *ℤ (c.from-3.result -ℤ c.from-4.result)) = rw (d, e, f, g) s.across in
    let least : SFits w64 ((((pos 2 *ℤ (c.from-5.result -ℤ c.from-6.result)) +ℤ pos 1) *ℤ (c.from-3.result -ℤ c.from-4.result)) -ℤ (c.from.result -ℤ c.from-2.result)) = rw (a, b, d, e, f, g) s.least in
    simp to_z-of_z least

pub invariant_of-slope : goal.invariant_of-slope
invariant_of-slope c =
    let fits_v = c.ranges.v in
    let fits_uh : SFits w32 c.args.upper.h = search rules in
    let fits_1 : SFits w64 c.from.result = search rules in
    let fits_2 : SFits w64 c.from-2.result = search rules in
    let fits_3 : SFits w64 c.from-3.result = search rules in
    let fits_4 : SFits w64 c.from-4.result = search rules in
    let fits_5 : SFits w64 c.from-5.result = search rules in
    let fits_6 : SFits w64 c.from-6.result = search rules in
    let a : c.from.result ≡ c.args.lower.v = search rules in
    let b : c.from-2.result ≡ c.args.upper.v = search rules in
    let d : c.from-3.result ≡ c.args.lower.h = search rules in
    let e : c.from-4.result ≡ c.args.upper.h = search rules in
    let f : c.from-5.result ≡ c.args.v = search rules in
    let g : c.from-6.result ≡ c.args.upper.v = search rules in
    let s = are_small c.args.upper c.args.lower c.args.v c.requires.upper_in c.requires.lower_in c.requires.top c.requires.bottom in
    let height : SFits w64 (c.from.result -ℤ c.from-2.result) = rw (a, b) s.height in
    let width : SFits w64 (c.from-3.result -ℤ c.from-4.result) = rw (d, e) s.width in
    let down : SFits w64 (c.from-5.result -ℤ c.from-6.result) = rw (f, g) s.down in
    let step : SFits w64 (pos 2 *ℤ (c.from.result -ℤ c.from-2.result)) = rw (a, b) s.step in
    let twice : SFits w64 (pos 2 *ℤ (c.from-5.result -ℤ c.from-6.result)) = rw (f, g) s.twice in
    let odd : SFits w64 ((pos 2 *ℤ (c.from-5.result -ℤ c.from-6.result)) +ℤ pos 1) = rw (f, g) s.odd in
    let across : SFits w64 (((pos 2 *ℤ (c.from-5.result -ℤ c.from-6.result)) +ℤ pos 1) *ℤ (c.from-3.result -ℤ c.from-4.result)) = rw (d, e, f, g) s.across in
    let least : SFits w64 ((((pos 2 *ℤ (c.from-5.result -ℤ c.from-6.result)) +ℤ pos 1) *ℤ (c.from-3.result -ℤ c.from-4.result)) -ℤ (c.from.result -ℤ c.from-2.result)) = rw (a, b, d, e, f, g) s.least in
    simp to_z-of_z (record { origin_in = s.origin_in; rising = rw (a, b) s.rising; small = rw (a, b) s.small })

pub first_column-requires-clause-least_in : goal.first_column-requires-clause-least_in
first_column-requires-clause-least_in c =
    let fits_v = c.ranges.v in
    let fits_uh : SFits w32 c.args.upper.h = search rules in
    let fits_1 : SFits w64 c.from.result = search rules in
    let fits_2 : SFits w64 c.from-2.result = search rules in
    let fits_3 : SFits w64 c.from-3.result = search rules in
    let fits_4 : SFits w64 c.from-4.result = search rules in
    let fits_5 : SFits w64 c.from-5.result = search rules in
    let fits_6 : SFits w64 c.from-6.result = search rules in
    let a : c.from.result ≡ c.args.lower.v = search rules in
    let b : c.from-2.result ≡ c.args.upper.v = search rules in
    let d : c.from-3.result ≡ c.args.lower.h = search rules in
    let e : c.from-4.result ≡ c.args.upper.h = search rules in
    let f : c.from-5.result ≡ c.args.v = search rules in
    let g : c.from-6.result ≡ c.args.upper.v = search rules in
    let s = are_small c.args.upper c.args.lower c.args.v c.requires.upper_in c.requires.lower_in c.requires.top c.requires.bottom in
    let height : SFits w64 (c.from.result -ℤ c.from-2.result) = rw (a, b) s.height in
    let width : SFits w64 (c.from-3.result -ℤ c.from-4.result) = rw (d, e) s.width in
    let down : SFits w64 (c.from-5.result -ℤ c.from-6.result) = rw (f, g) s.down in
    let step : SFits w64 (pos 2 *ℤ (c.from.result -ℤ c.from-2.result)) = rw (a, b) s.step in
    let twice : SFits w64 (pos 2 *ℤ (c.from-5.result -ℤ c.from-6.result)) = rw (f, g) s.twice in
    let odd : SFits w64 ((pos 2 *ℤ (c.from-5.result -ℤ c.from-6.result)) +ℤ pos 1) = rw (f, g) s.odd in
    let across : SFits w64 (((pos 2 *ℤ (c.from-5.result -ℤ c.from-6.result)) +ℤ pos 1) *ℤ (c.from-3.result -ℤ c.from-4.result)) = rw (d, e, f, g) s.across in
    let least : SFits w64 ((((pos 2 *ℤ (c.from-5.result -ℤ c.from-6.result)) +ℤ pos 1) *ℤ (c.from-3.result -ℤ c.from-4.result)) -ℤ (c.from.result -ℤ c.from-2.result)) = rw (a, b, d, e, f, g) s.least in
    simp to_z-of_z (rw (a, b, d, e, f, g) s.least_in)

pub returns-clause-edge : goal.returns-clause-edge
returns-clause-edge c =
    let fits_v = c.ranges.v in
    let fits_uh : SFits w32 c.args.upper.h = search rules in
    let fits_1 : SFits w64 c.from.result = search rules in
    let fits_2 : SFits w64 c.from-2.result = search rules in
    let fits_3 : SFits w64 c.from-3.result = search rules in
    let fits_4 : SFits w64 c.from-4.result = search rules in
    let fits_5 : SFits w64 c.from-5.result = search rules in
    let fits_6 : SFits w64 c.from-6.result = search rules in
    let a : c.from.result ≡ c.args.lower.v = search rules in
    let b : c.from-2.result ≡ c.args.upper.v = search rules in
    let d : c.from-3.result ≡ c.args.lower.h = search rules in
    let e : c.from-4.result ≡ c.args.upper.h = search rules in
    let f : c.from-5.result ≡ c.args.v = search rules in
    let g : c.from-6.result ≡ c.args.upper.v = search rules in
    let s = are_small c.args.upper c.args.lower c.args.v c.requires.upper_in c.requires.lower_in c.requires.top c.requires.bottom in
    let height : SFits w64 (c.from.result -ℤ c.from-2.result) = rw (a, b) s.height in
    let width : SFits w64 (c.from-3.result -ℤ c.from-4.result) = rw (d, e) s.width in
    let down : SFits w64 (c.from-5.result -ℤ c.from-6.result) = rw (f, g) s.down in
    let step : SFits w64 (pos 2 *ℤ (c.from.result -ℤ c.from-2.result)) = rw (a, b) s.step in
    let twice : SFits w64 (pos 2 *ℤ (c.from-5.result -ℤ c.from-6.result)) = rw (f, g) s.twice in
    let odd : SFits w64 ((pos 2 *ℤ (c.from-5.result -ℤ c.from-6.result)) +ℤ pos 1) = rw (f, g) s.odd in
    let across : SFits w64 (((pos 2 *ℤ (c.from-5.result -ℤ c.from-6.result)) +ℤ pos 1) *ℤ (c.from-3.result -ℤ c.from-4.result)) = rw (d, e, f, g) s.across in
    let least : SFits w64 ((((pos 2 *ℤ (c.from-5.result -ℤ c.from-6.result)) +ℤ pos 1) *ℤ (c.from-3.result -ℤ c.from-4.result)) -ℤ (c.from.result -ℤ c.from-2.result)) = rw (a, b, d, e, f, g) s.least in
    let fits_l = c.ranges.left in
    let fits_r = c.ranges.right in
    let fits_c : SFits w32 c.first_column.result = search rules in
    let told = rw (a, b, d, e, f, g) at (simp to_z-of_z at c.first_column.ensures.edge) in
    λ h from to. simp to_z-of_z (told h from to ∙ passes_column c.args.upper c.args.lower h c.args.v c.requires.top c.requires.bottom)

pub returns-clause-low : goal.returns-clause-low
returns-clause-low c =
    let fits_l = c.ranges.left in
    let fits_r = c.ranges.right in
    let fits_c : SFits w32 c.first_column.result = search rules in
    let low = simp to_z-of_z at c.first_column.ensures.low in
    simp to_z-of_z low

pub returns-clause-high : goal.returns-clause-high
returns-clause-high c =
    let fits_l = c.ranges.left in
    let fits_r = c.ranges.right in
    let fits_c : SFits w32 c.first_column.result = search rules in
    let high = simp to_z-of_z at c.first_column.ensures.high in
    simp to_z-of_z high
