use Rattle.std.proofs.Common.{◌≡◌, ◌∙◌, ap, ◌-ℤ◌, ◌+ℤ◌, ◌≤ℤ◌, arith, SFits, w32, w64, rules}
use Rattle.std.specs.Prelude.{int_le}
use Rattle.std.proofs.lemmas.Int.{ints, to_z-of_z}
use Rattle.shape_strips.proofs.ColumnLemmas.{near_columns, near_column, clamped, edge_from}
use Rattle.shape_strips.proofs.columns.Slope.first_column.Goals as goal

pub clamp-first-requires : goal.clamp-first-requires
clamp-first-requires c =
    let o : c.from-origin.result ≡ c.args.self.origin = search rules in
    let l : c.from.result ≡ c.args.left = search rules in
    let r : c.from-2.result ≡ c.args.right = search rules in
    let near = near_columns c.args.self.origin c.args.left c.args.right c.args.self.origin_in c.requires.left_in c.requires.right_in in
    let order = c.requires.order in
    let fits_o : SFits w64 c.from-origin.result = search rules in
    let fits_l : SFits w64 c.from.result = search rules in
    let fits_r : SFits w64 c.from-2.result = search rules in
    let fits_low : SFits w64 (c.from.result -ℤ c.from-origin.result) = rw (o, l) near.low in
    let fits_high : SFits w64 (c.from-2.result -ℤ c.from-origin.result) = rw (o, r) near.high in
    simp to_z-of_z (omega (arith, ints))

pub overflow_add-result : goal.overflow_add-result
overflow_add-result c =
    let o : c.from-origin.result ≡ c.args.self.origin = search rules in
    let l : c.from.result ≡ c.args.left = search rules in
    let r : c.from-2.result ≡ c.args.right = search rules in
    let near = near_columns c.args.self.origin c.args.left c.args.right c.args.self.origin_in c.requires.left_in c.requires.right_in in
    let fits_o : SFits w64 c.from-origin.result = search rules in
    let fits_l : SFits w64 c.from.result = search rules in
    let fits_r : SFits w64 c.from-2.result = search rules in
    let fits_low : SFits w64 (c.from.result -ℤ c.from-origin.result) = rw (o, l) near.low in
    let fits_high : SFits w64 (c.from-2.result -ℤ c.from-origin.result) = rw (o, r) near.high in
    let fits_f : SFits w64 c.clamp-first.result = search rules in
    let low = simp to_z-of_z at c.clamp-first.ensures.lower_bound in
    let high = simp to_z-of_z at c.clamp-first.ensures.upper_bound in
    let above : (c.args.left -ℤ c.args.self.origin) ≤ℤ c.clamp-first.result = omega (arith, ints) in
    let under : c.clamp-first.result ≤ℤ (c.args.right -ℤ c.args.self.origin) = omega (arith, ints) in
    let is = near_column c.args.self.origin c.args.left c.args.right c.clamp-first.result c.args.self.origin_in c.requires.left_in c.requires.right_in above under in
    simp to_z-of_z (rw o is.wide)

pub overflow_cast-result : goal.overflow_cast-result
overflow_cast-result c =
    let o : c.from-origin.result ≡ c.args.self.origin = search rules in
    let l : c.from.result ≡ c.args.left = search rules in
    let r : c.from-2.result ≡ c.args.right = search rules in
    let near = near_columns c.args.self.origin c.args.left c.args.right c.args.self.origin_in c.requires.left_in c.requires.right_in in
    let fits_o : SFits w64 c.from-origin.result = search rules in
    let fits_l : SFits w64 c.from.result = search rules in
    let fits_r : SFits w64 c.from-2.result = search rules in
    let fits_low : SFits w64 (c.from.result -ℤ c.from-origin.result) = rw (o, l) near.low in
    let fits_high : SFits w64 (c.from-2.result -ℤ c.from-origin.result) = rw (o, r) near.high in
    let fits_f : SFits w64 c.clamp-first.result = search rules in
    let low = simp to_z-of_z at c.clamp-first.ensures.lower_bound in
    let high = simp to_z-of_z at c.clamp-first.ensures.upper_bound in
    let above : (c.args.left -ℤ c.args.self.origin) ≤ℤ c.clamp-first.result = omega (arith, ints) in
    let under : c.clamp-first.result ≤ℤ (c.args.right -ℤ c.args.self.origin) = omega (arith, ints) in
    let is = near_column c.args.self.origin c.args.left c.args.right c.clamp-first.result c.args.self.origin_in c.requires.left_in c.requires.right_in above under in
    let wide : SFits w64 (c.from-origin.result +ℤ c.clamp-first.result) = rw o is.wide in
    simp to_z-of_z (rw o is.narrow)

pub returns-clause-edge : goal.returns-clause-edge
returns-clause-edge c =
    let o : c.from-origin.result ≡ c.args.self.origin = search rules in
    let l : c.from.result ≡ c.args.left = search rules in
    let r : c.from-2.result ≡ c.args.right = search rules in
    let near = near_columns c.args.self.origin c.args.left c.args.right c.args.self.origin_in c.requires.left_in c.requires.right_in in
    let fits_o : SFits w64 c.from-origin.result = search rules in
    let fits_l : SFits w64 c.from.result = search rules in
    let fits_r : SFits w64 c.from-2.result = search rules in
    let fits_low : SFits w64 (c.from.result -ℤ c.from-origin.result) = rw (o, l) near.low in
    let fits_high : SFits w64 (c.from-2.result -ℤ c.from-origin.result) = rw (o, r) near.high in
    let fits_f : SFits w64 c.clamp-first.result = search rules in
    let fits_q : SFits w64 c.least_times.result = search rules in
    let fits_n = c.ranges.least in
    let fits_s : SFits w64 c.args.self.step = search rules in
    let low = simp to_z-of_z at c.clamp-first.ensures.lower_bound in
    let high = simp to_z-of_z at c.clamp-first.ensures.upper_bound in
    let above : (c.args.left -ℤ c.args.self.origin) ≤ℤ c.clamp-first.result = omega (arith, ints) in
    let under : c.clamp-first.result ≤ℤ (c.args.right -ℤ c.args.self.origin) = omega (arith, ints) in
    let is = near_column c.args.self.origin c.args.left c.args.right c.clamp-first.result c.args.self.origin_in c.requires.left_in c.requires.right_in above under in
    let wide : SFits w64 (c.from-origin.result +ℤ c.clamp-first.result) = rw o is.wide in
    let narrow : SFits w32 (c.from-origin.result +ℤ c.clamp-first.result) = rw o is.narrow in
    let value = rw (o, l, r) at (simp to_z-of_z at c.clamp-first.ensures.value) in
    let told = simp to_z-of_z at c.least_times.ensures in
    λ h from to. simp to_z-of_z (rw o (ap (λ f. int_le (c.args.self.origin +ℤ f) h) value
    ∙ clamped c.args.self.origin c.args.left c.args.right c.least_times.result h from to
    ∙ edge_from c.args.self.origin c.least_times.result h c.args.least c.args.self.step told))

pub returns-clause-low : goal.returns-clause-low
returns-clause-low c =
    let o : c.from-origin.result ≡ c.args.self.origin = search rules in
    let l : c.from.result ≡ c.args.left = search rules in
    let r : c.from-2.result ≡ c.args.right = search rules in
    let near = near_columns c.args.self.origin c.args.left c.args.right c.args.self.origin_in c.requires.left_in c.requires.right_in in
    let fits_o : SFits w64 c.from-origin.result = search rules in
    let fits_l : SFits w64 c.from.result = search rules in
    let fits_r : SFits w64 c.from-2.result = search rules in
    let fits_low : SFits w64 (c.from.result -ℤ c.from-origin.result) = rw (o, l) near.low in
    let fits_high : SFits w64 (c.from-2.result -ℤ c.from-origin.result) = rw (o, r) near.high in
    let fits_f : SFits w64 c.clamp-first.result = search rules in
    let low = simp to_z-of_z at c.clamp-first.ensures.lower_bound in
    let high = simp to_z-of_z at c.clamp-first.ensures.upper_bound in
    let above : (c.args.left -ℤ c.args.self.origin) ≤ℤ c.clamp-first.result = omega (arith, ints) in
    let under : c.clamp-first.result ≤ℤ (c.args.right -ℤ c.args.self.origin) = omega (arith, ints) in
    let is = near_column c.args.self.origin c.args.left c.args.right c.clamp-first.result c.args.self.origin_in c.requires.left_in c.requires.right_in above under in
    let wide : SFits w64 (c.from-origin.result +ℤ c.clamp-first.result) = rw o is.wide in
    let narrow : SFits w32 (c.from-origin.result +ℤ c.clamp-first.result) = rw o is.narrow in
    simp to_z-of_z (omega (arith, ints))

pub returns-clause-high : goal.returns-clause-high
returns-clause-high c =
    let o : c.from-origin.result ≡ c.args.self.origin = search rules in
    let l : c.from.result ≡ c.args.left = search rules in
    let r : c.from-2.result ≡ c.args.right = search rules in
    let near = near_columns c.args.self.origin c.args.left c.args.right c.args.self.origin_in c.requires.left_in c.requires.right_in in
    let fits_o : SFits w64 c.from-origin.result = search rules in
    let fits_l : SFits w64 c.from.result = search rules in
    let fits_r : SFits w64 c.from-2.result = search rules in
    let fits_low : SFits w64 (c.from.result -ℤ c.from-origin.result) = rw (o, l) near.low in
    let fits_high : SFits w64 (c.from-2.result -ℤ c.from-origin.result) = rw (o, r) near.high in
    let fits_f : SFits w64 c.clamp-first.result = search rules in
    let low = simp to_z-of_z at c.clamp-first.ensures.lower_bound in
    let high = simp to_z-of_z at c.clamp-first.ensures.upper_bound in
    let above : (c.args.left -ℤ c.args.self.origin) ≤ℤ c.clamp-first.result = omega (arith, ints) in
    let under : c.clamp-first.result ≤ℤ (c.args.right -ℤ c.args.self.origin) = omega (arith, ints) in
    let is = near_column c.args.self.origin c.args.left c.args.right c.clamp-first.result c.args.self.origin_in c.requires.left_in c.requires.right_in above under in
    let wide : SFits w64 (c.from-origin.result +ℤ c.clamp-first.result) = rw o is.wide in
    let narrow : SFits w32 (c.from-origin.result +ℤ c.clamp-first.result) = rw o is.narrow in
    simp to_z-of_z (omega (arith, ints))
