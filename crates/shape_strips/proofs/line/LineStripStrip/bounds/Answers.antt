use Rattle.std.proofs.Common.{◌≡◌, ◌∙◌, pos, ◌+ℤ◌, refl, sym, arith, SFits, w32, rules}
use Rattle.std.specs.Int.{int_min, int_max}
use Rattle.std.proofs.lemmas.Int.{ints, to_z-of_z}
use Rattle.shape_strips.proofs.RangeLemmas.{in_range_from}
use Rattle.shape_strips.proofs.LineNumbers.{small_fits}
use Rattle.shape_strips.proofs.PenLemmas.{sides_of_line, line_none, line_outside}
use Rattle.shape_strips.proofs.line.LineStripStrip.bounds.Goals as goal

pub returns-then-not-has_size-clause-around : goal.returns-then-not-has_size-clause-around
returns-then-not-has_size-clause-around c = λ p out.
    let none = sym c.has_size.ensures ∙ c.if-not-has_size.true in
    line_none c.args.self.now.from c.args.self.now.to c.args.self.now.pen p none

pub overflow_add-result : goal.overflow_add-result
overflow_add-result c =
    let sized = sym c.has_size.ensures ∙ c.if-not-has_size.false in
    let fits_3 : SFits w32 c.max.result = search rules in
    let fits_5 : SFits w32 c.from.result = search rules in
    let m : c.max.result ≡ int_max c.args.self.now.from.h c.args.self.now.to.h = search rules in
    let w : c.from.result ≡ pos c.args.self.now.pen.width = search rules in
    let sides = sides_of_line c.args.self.now.from c.args.self.now.to c.args.self.now.pen sized c.args.self.now.from_in c.args.self.now.to_in
    (int_min c.args.self.now.from.h c.args.self.now.to.h) (int_min c.args.self.now.from.v c.args.self.now.to.v) (c.max.result +ℤ c.from.result) (int_max c.args.self.now.from.v c.args.self.now.to.v +ℤ pos c.args.self.now.pen.height)
    refl refl (λ i. m i +ℤ w i) refl in
    let right_low = sides.right_low in
    let right_high = sides.right_high in
    simp to_z-of_z (small_fits (c.max.result +ℤ c.from.result) right_low (omega (arith, ints)))

pub overflow_add-result-2 : goal.overflow_add-result-2
overflow_add-result-2 c =
    let sized = sym c.has_size.ensures ∙ c.if-not-has_size.false in
    let fits_1 : SFits w32 c.min.result = search rules in
    let fits_2 : SFits w32 c.min-2.result = search rules in
    let fits_3 : SFits w32 c.max.result = search rules in
    let fits_4 : SFits w32 c.max-2.result = search rules in
    let fits_5 : SFits w32 c.from.result = search rules in
    let fits_6 : SFits w32 c.from-2.result = search rules in
    let l : c.min.result ≡ int_min c.args.self.now.from.h c.args.self.now.to.h = search rules in
    let t : c.min-2.result ≡ int_min c.args.self.now.from.v c.args.self.now.to.v = search rules in
    let m : c.max.result ≡ int_max c.args.self.now.from.h c.args.self.now.to.h = search rules in
    let n : c.max-2.result ≡ int_max c.args.self.now.from.v c.args.self.now.to.v = search rules in
    let w : c.from.result ≡ pos c.args.self.now.pen.width = search rules in
    let k : c.from-2.result ≡ pos c.args.self.now.pen.height = search rules in
    let sides = sides_of_line c.args.self.now.from c.args.self.now.to c.args.self.now.pen sized c.args.self.now.from_in c.args.self.now.to_in
    c.min.result c.min-2.result (c.max.result +ℤ c.from.result) (c.max-2.result +ℤ c.from-2.result) l t (λ i. m i +ℤ w i) (λ i. n i +ℤ k i) in
    let right_low = sides.right_low in
    let right_high = sides.right_high in
    let bottom_low = sides.bottom_low in
    let bottom_high = sides.bottom_high in
    let fits_r : SFits w32 (c.max.result +ℤ c.from.result) = small_fits (c.max.result +ℤ c.from.result) right_low (omega (arith, ints)) in
    let fits_b : SFits w32 (c.max-2.result +ℤ c.from-2.result) = small_fits (c.max-2.result +ℤ c.from-2.result) bottom_low (omega (arith, ints)) in
    simp to_z-of_z fits_b

pub returns-clause-in_range : goal.returns-clause-in_range
returns-clause-in_range c =
    let sized = sym c.has_size.ensures ∙ c.if-not-has_size.false in
    let fits_1 : SFits w32 c.min.result = search rules in
    let fits_2 : SFits w32 c.min-2.result = search rules in
    let fits_3 : SFits w32 c.max.result = search rules in
    let fits_4 : SFits w32 c.max-2.result = search rules in
    let fits_5 : SFits w32 c.from.result = search rules in
    let fits_6 : SFits w32 c.from-2.result = search rules in
    let l : c.min.result ≡ int_min c.args.self.now.from.h c.args.self.now.to.h = search rules in
    let t : c.min-2.result ≡ int_min c.args.self.now.from.v c.args.self.now.to.v = search rules in
    let m : c.max.result ≡ int_max c.args.self.now.from.h c.args.self.now.to.h = search rules in
    let n : c.max-2.result ≡ int_max c.args.self.now.from.v c.args.self.now.to.v = search rules in
    let w : c.from.result ≡ pos c.args.self.now.pen.width = search rules in
    let k : c.from-2.result ≡ pos c.args.self.now.pen.height = search rules in
    let sides = sides_of_line c.args.self.now.from c.args.self.now.to c.args.self.now.pen sized c.args.self.now.from_in c.args.self.now.to_in
    c.min.result c.min-2.result (c.max.result +ℤ c.from.result) (c.max-2.result +ℤ c.from-2.result) l t (λ i. m i +ℤ w i) (λ i. n i +ℤ k i) in
    let right_low = sides.right_low in
    let right_high = sides.right_high in
    let bottom_low = sides.bottom_low in
    let bottom_high = sides.bottom_high in
    let fits_r : SFits w32 (c.max.result +ℤ c.from.result) = small_fits (c.max.result +ℤ c.from.result) right_low (omega (arith, ints)) in
    let fits_b : SFits w32 (c.max-2.result +ℤ c.from-2.result) = small_fits (c.max-2.result +ℤ c.from-2.result) bottom_low (omega (arith, ints)) in
    simp to_z-of_z (in_range_from (record { left = c.min.result; top = c.min-2.result; right = c.max.result +ℤ c.from.result; bottom = c.max-2.result +ℤ c.from-2.result }) sides)

pub returns-clause-around : goal.returns-clause-around
returns-clause-around c =
    let sized = sym c.has_size.ensures ∙ c.if-not-has_size.false in
    let fits_1 : SFits w32 c.min.result = search rules in
    let fits_2 : SFits w32 c.min-2.result = search rules in
    let fits_3 : SFits w32 c.max.result = search rules in
    let fits_4 : SFits w32 c.max-2.result = search rules in
    let fits_5 : SFits w32 c.from.result = search rules in
    let fits_6 : SFits w32 c.from-2.result = search rules in
    let l : c.min.result ≡ int_min c.args.self.now.from.h c.args.self.now.to.h = search rules in
    let t : c.min-2.result ≡ int_min c.args.self.now.from.v c.args.self.now.to.v = search rules in
    let m : c.max.result ≡ int_max c.args.self.now.from.h c.args.self.now.to.h = search rules in
    let n : c.max-2.result ≡ int_max c.args.self.now.from.v c.args.self.now.to.v = search rules in
    let w : c.from.result ≡ pos c.args.self.now.pen.width = search rules in
    let k : c.from-2.result ≡ pos c.args.self.now.pen.height = search rules in
    let sides = sides_of_line c.args.self.now.from c.args.self.now.to c.args.self.now.pen sized c.args.self.now.from_in c.args.self.now.to_in
    c.min.result c.min-2.result (c.max.result +ℤ c.from.result) (c.max-2.result +ℤ c.from-2.result) l t (λ i. m i +ℤ w i) (λ i. n i +ℤ k i) in
    let right_low = sides.right_low in
    let right_high = sides.right_high in
    let bottom_low = sides.bottom_low in
    let bottom_high = sides.bottom_high in
    let fits_r : SFits w32 (c.max.result +ℤ c.from.result) = small_fits (c.max.result +ℤ c.from.result) right_low (omega (arith, ints)) in
    let fits_b : SFits w32 (c.max-2.result +ℤ c.from-2.result) = small_fits (c.max-2.result +ℤ c.from-2.result) bottom_low (omega (arith, ints)) in
    λ p. simp to_z-of_z (line_outside c.args.self.now.from c.args.self.now.to c.args.self.now.pen p c.min.result c.min-2.result (c.max.result +ℤ c.from.result) (c.max-2.result +ℤ c.from-2.result) l t (λ i. m i +ℤ w i) (λ i. n i +ℤ k i))
