use Rattle.std.proofs.Common.{◌≡◌, ◌∙◌, ◌<◌, inl, inr, pos, negsuc, ◌+ℤ◌, ◌-ℤ◌, ◌≤ℤ◌, ◌<ℤ◌, sym, ap, arith, SFits, w32, rules}
use Rattle.std.specs.Int.{int_max}
use Rattle.std.proofs.lemmas.Int.{ints, to_z-of_z}
use Rattle.shape_strips.proofs.RangeLemmas.{sum_fits, rest_fits}
use Rattle.shape_strips.proofs.LineNumbers.{pen_rows_fit, rows_ordered}
use Rattle.shape_strips.proofs.PenLemmas.{place_of, sized_fits, has_sides, line_none, line_above, line_row}
use Rattle.shape_strips.proofs.line.line_run.Goals as goal
use Rattle.shape_strips.proofs.line.line_run.Goals.{then-v-upper-via-then-v-upper, then-v-upper-via-else-v-upper+then-lower-height}

pub returns-then-not-has_size : goal.returns-then-not-has_size
returns-then-not-has_size c =
    let none = sym c.has_size.ensures ∙ c.if-not-has_size.true in
    λ h. c.empty.ensures h ∙ sym (line_none c.args.upper c.args.lower c.args.pen (record { h = h; v = c.args.v }) none)

pub overflow_add-lower : goal.overflow_add-lower
overflow_add-lower c =
    let upper = place_of c.args.pen c.args.upper c.requires.upper_in in
    let lower = place_of c.args.pen c.args.lower c.requires.lower_in in
    let sized = sym c.has_size.ensures ∙ c.if-not-has_size.false in
    let past = sized_fits c.args.pen c.args.lower sized c.requires.lower_in in
    let few : c.args.pen.height < 65536 = search rules in
    let height : c.from-height.result ≡ pos c.args.pen.height = search rules in
    let fits_h : SFits w32 c.from-height.result = search rules in
    let fits_v = c.ranges.v in
    let fits_u : SFits w32 c.args.upper.v = search rules in
    let fits_l : SFits w32 c.args.lower.v = search rules in
    let fits_b : SFits w32 (c.args.lower.v +ℤ c.from-height.result) = rw height (sum_fits c.args.lower.v c.args.pen.height lower.v_low lower.v_high few) in
    simp to_z-of_z fits_b

pub returns-then-v-upper : goal.returns-then-v-upper
returns-then-v-upper c =
    let upper = place_of c.args.pen c.args.upper c.requires.upper_in in
    let lower = place_of c.args.pen c.args.lower c.requires.lower_in in
    let sized = sym c.has_size.ensures ∙ c.if-not-has_size.false in
    let past = sized_fits c.args.pen c.args.lower sized c.requires.lower_in in
    let few : c.args.pen.height < 65536 = search rules in
    let height : c.from-height.result ≡ pos c.args.pen.height = search rules in
    let fits_h : SFits w32 c.from-height.result = search rules in
    let fits_v = c.ranges.v in
    let fits_u : SFits w32 c.args.upper.v = search rules in
    let fits_l : SFits w32 c.args.lower.v = search rules in
    let fits_b : SFits w32 (c.args.lower.v +ℤ c.from-height.result) = rw height (sum_fits c.args.lower.v c.args.pen.height lower.v_low lower.v_high few) in
    λ h. c.empty-then-v-upper.ensures h ∙ sym (line_above c.args.upper c.args.lower c.args.pen (record { h = h; v = c.args.v }) c.requires.order (elim c.then-v-upper.branch [
      | then-v-upper-via-then-v-upper w ↦ inl (let test = simp to_z-of_z at w.if-v-upper.true in omega (arith, ints))
      | then-v-upper-via-else-v-upper+then-lower-height w ↦ inr (let test = simp to_z-of_z at w.if-lower-height.true in omega (arith, ints))
    ]))

pub overflow_sub-v : goal.overflow_sub-v
overflow_sub-v c =
    let upper = place_of c.args.pen c.args.upper c.requires.upper_in in
    let lower = place_of c.args.pen c.args.lower c.requires.lower_in in
    let sized = sym c.has_size.ensures ∙ c.if-not-has_size.false in
    let past = sized_fits c.args.pen c.args.lower sized c.requires.lower_in in
    let few : c.args.pen.height < 65536 = search rules in
    let height : c.from-height.result ≡ pos c.args.pen.height = search rules in
    let fits_h : SFits w32 c.from-height.result = search rules in
    let fits_v = c.ranges.v in
    let fits_u : SFits w32 c.args.upper.v = search rules in
    let fits_l : SFits w32 c.args.lower.v = search rules in
    let fits_b : SFits w32 (c.args.lower.v +ℤ c.from-height.result) = rw height (sum_fits c.args.lower.v c.args.pen.height lower.v_low lower.v_high few) in
    let first = c.if-v-upper.false in
    let last = c.if-lower-height.false in
    let top : c.args.upper.v ≤ℤ c.args.v = omega (arith, ints) in
    let bottom : c.args.v <ℤ (c.args.lower.v +ℤ pos c.args.pen.height) = omega (arith, ints) in
    let least = upper.v_low in
    let most : (c.args.lower.v +ℤ pos c.args.pen.height) ≤ℤ pos 16383 = past.1 in
    let low : negsuc 16383 ≤ℤ c.args.v = omega (arith, ints) in
    let high : c.args.v ≤ℤ pos 16383 = omega (arith, ints) in
    let fits_p : SFits w32 (c.args.v -ℤ c.from-height.result) = rw height (rest_fits c.args.v c.args.pen.height low high few) in
    let fits_q : SFits w32 ((c.args.v -ℤ c.from-height.result) +ℤ pos 1) = rw height (pen_rows_fit c.args.v c.args.pen.height low high few) in
    simp to_z-of_z fits_p

pub overflow_add-v : goal.overflow_add-v
overflow_add-v c =
    let upper = place_of c.args.pen c.args.upper c.requires.upper_in in
    let lower = place_of c.args.pen c.args.lower c.requires.lower_in in
    let sized = sym c.has_size.ensures ∙ c.if-not-has_size.false in
    let past = sized_fits c.args.pen c.args.lower sized c.requires.lower_in in
    let few : c.args.pen.height < 65536 = search rules in
    let height : c.from-height.result ≡ pos c.args.pen.height = search rules in
    let fits_h : SFits w32 c.from-height.result = search rules in
    let fits_v = c.ranges.v in
    let fits_u : SFits w32 c.args.upper.v = search rules in
    let fits_l : SFits w32 c.args.lower.v = search rules in
    let fits_b : SFits w32 (c.args.lower.v +ℤ c.from-height.result) = rw height (sum_fits c.args.lower.v c.args.pen.height lower.v_low lower.v_high few) in
    let first = c.if-v-upper.false in
    let last = c.if-lower-height.false in
    let top : c.args.upper.v ≤ℤ c.args.v = omega (arith, ints) in
    let bottom : c.args.v <ℤ (c.args.lower.v +ℤ pos c.args.pen.height) = omega (arith, ints) in
    let least = upper.v_low in
    let most : (c.args.lower.v +ℤ pos c.args.pen.height) ≤ℤ pos 16383 = past.1 in
    let low : negsuc 16383 ≤ℤ c.args.v = omega (arith, ints) in
    let high : c.args.v ≤ℤ pos 16383 = omega (arith, ints) in
    let fits_p : SFits w32 (c.args.v -ℤ c.from-height.result) = rw height (rest_fits c.args.v c.args.pen.height low high few) in
    let fits_q : SFits w32 ((c.args.v -ℤ c.from-height.result) +ℤ pos 1) = rw height (pen_rows_fit c.args.v c.args.pen.height low high few) in
    simp to_z-of_z fits_q

pub thin_run-requires-clause-order : goal.thin_run-requires-clause-order
thin_run-requires-clause-order c =
    let upper = place_of c.args.pen c.args.upper c.requires.upper_in in
    let lower = place_of c.args.pen c.args.lower c.requires.lower_in in
    let sized = sym c.has_size.ensures ∙ c.if-not-has_size.false in
    let past = sized_fits c.args.pen c.args.lower sized c.requires.lower_in in
    let few : c.args.pen.height < 65536 = search rules in
    let height : c.from-height.result ≡ pos c.args.pen.height = search rules in
    let fits_h : SFits w32 c.from-height.result = search rules in
    let fits_v = c.ranges.v in
    let fits_u : SFits w32 c.args.upper.v = search rules in
    let fits_l : SFits w32 c.args.lower.v = search rules in
    let fits_b : SFits w32 (c.args.lower.v +ℤ c.from-height.result) = rw height (sum_fits c.args.lower.v c.args.pen.height lower.v_low lower.v_high few) in
    let first = c.if-v-upper.false in
    let last = c.if-lower-height.false in
    let top : c.args.upper.v ≤ℤ c.args.v = omega (arith, ints) in
    let bottom : c.args.v <ℤ (c.args.lower.v +ℤ pos c.args.pen.height) = omega (arith, ints) in
    let least = upper.v_low in
    let most : (c.args.lower.v +ℤ pos c.args.pen.height) ≤ℤ pos 16383 = past.1 in
    let low : negsuc 16383 ≤ℤ c.args.v = omega (arith, ints) in
    let high : c.args.v ≤ℤ pos 16383 = omega (arith, ints) in
    let fits_p : SFits w32 (c.args.v -ℤ c.from-height.result) = rw height (rest_fits c.args.v c.args.pen.height low high few) in
    let fits_q : SFits w32 ((c.args.v -ℤ c.from-height.result) +ℤ pos 1) = rw height (pen_rows_fit c.args.v c.args.pen.height low high few) in
    let fits_f : SFits w32 c.max-first.result = search rules in
    let fits_g : SFits w32 c.min.result = search rules in
    let begin = simp to_z-of_z at c.max-first.ensures.value in
    let end = simp to_z-of_z at c.min.ensures.value in
    let order = c.requires.order in
    let sides = has_sides c.args.pen sized in
    let some = sides.1 in
    simp to_z-of_z (rows_ordered c.args.upper.v c.args.v c.args.lower.v c.from-height.result c.max-first.result c.min.result begin end top order (omega (arith, ints)) (omega (arith, ints)))

pub widened-requires-clause-some : goal.widened-requires-clause-some
widened-requires-clause-some c =
    let sized = sym c.has_size.ensures ∙ c.if-not-has_size.false in
    (has_sides c.args.pen sized).0

pub returns : goal.returns
returns c =
    let upper = place_of c.args.pen c.args.upper c.requires.upper_in in
    let lower = place_of c.args.pen c.args.lower c.requires.lower_in in
    let sized = sym c.has_size.ensures ∙ c.if-not-has_size.false in
    let past = sized_fits c.args.pen c.args.lower sized c.requires.lower_in in
    let few : c.args.pen.height < 65536 = search rules in
    let height : c.from-height.result ≡ pos c.args.pen.height = search rules in
    let fits_h : SFits w32 c.from-height.result = search rules in
    let fits_v = c.ranges.v in
    let fits_u : SFits w32 c.args.upper.v = search rules in
    let fits_l : SFits w32 c.args.lower.v = search rules in
    let fits_b : SFits w32 (c.args.lower.v +ℤ c.from-height.result) = rw height (sum_fits c.args.lower.v c.args.pen.height lower.v_low lower.v_high few) in
    let first = c.if-v-upper.false in
    let last = c.if-lower-height.false in
    let top : c.args.upper.v ≤ℤ c.args.v = omega (arith, ints) in
    let bottom : c.args.v <ℤ (c.args.lower.v +ℤ pos c.args.pen.height) = omega (arith, ints) in
    let least = upper.v_low in
    let most : (c.args.lower.v +ℤ pos c.args.pen.height) ≤ℤ pos 16383 = past.1 in
    let low : negsuc 16383 ≤ℤ c.args.v = omega (arith, ints) in
    let high : c.args.v ≤ℤ pos 16383 = omega (arith, ints) in
    let fits_p : SFits w32 (c.args.v -ℤ c.from-height.result) = rw height (rest_fits c.args.v c.args.pen.height low high few) in
    let fits_q : SFits w32 ((c.args.v -ℤ c.from-height.result) +ℤ pos 1) = rw height (pen_rows_fit c.args.v c.args.pen.height low high few) in
    let fits_f : SFits w32 c.max-first.result = search rules in
    let fits_g : SFits w32 c.min.result = search rules in
    let begin = simp to_z-of_z at c.max-first.ensures.value in
    let end = simp to_z-of_z at c.min.ensures.value in
    let joined = simp to_z-of_z at c.thin_run.ensures.joined in
    λ h. c.widened.ensures h ∙ line_row c.args.upper c.args.lower c.args.pen c.max-first.result c.min.result h c.args.v c.thin_run.result c.requires.order joined
    (begin ∙ ap (λ z. int_max c.args.upper.v ((c.args.v -ℤ z) +ℤ pos 1)) height) end
