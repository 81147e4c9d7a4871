-- Texts of two parts.
use Rattle.std.proofs.Common.{◌≡◌, ℕ, ◌+◌, ℤ, pos, ◌+ℤ◌, ◌-ℤ◌, Bool, true, false, ◌||◌, List, [], ◌∷◌, ◌++◌, refl, arith}
use Rattle.std.proofs.lemmas.Int.{ints}
use Rattle.tb_geom.specs.declared.point.Point.{Point}
use Rattle.strike_font.specs.Text.{glyph_of, glyph_pixel, glyphs_pixel, text_holds, text_width}

pub widths_add : (font one other : List ℕ) → text_width font (one ++ other) ≡ text_width font one + text_width font other
widths_add font [] other = omega arith
widths_add font (c ∷ cs) other = let e = widths_add font cs other in omega (arith, e)

or_join : (a b c : Bool) → (a || (b || c)) ≡ ((a || b) || c)
or_join true b c = refl
or_join false b c = refl

-- the second part goes on where the first has moved the pen to
glyphs-join : (font one other : List ℕ) (across : ℕ) (x y : ℤ) → glyphs_pixel font (one ++ other) across x y ≡ (glyphs_pixel font one across x y || glyphs_pixel font other (across + text_width font one) x y)
glyphs-join font [] other across x y = let none : across + 0 ≡ across = omega arith in rw none refl
glyphs-join font (c ∷ cs) other across x y =
    let w = (glyph_of font c).width in
    let steps : across + (w + text_width font cs) ≡ across + w + text_width font cs = omega arith in
    rw (glyphs-join font cs other (across + w) x y, steps)
    (or_join (glyph_pixel font (glyph_of font c) (x -ℤ pos across) y) (glyphs_pixel font cs (across + w) x y) (glyphs_pixel font other (across + w + text_width font cs) x y))

-- a text further right is the same text seen from further right
glyphs-moved : (font text : List ℕ) (across by : ℕ) (x y : ℤ) → glyphs_pixel font text (across + by) x y ≡ glyphs_pixel font text across (x -ℤ pos by) y
glyphs-moved font [] across by x y = refl
glyphs-moved font (c ∷ cs) across by x y =
    let w = (glyph_of font c).width in
    let here : x -ℤ pos (across + by) ≡ x -ℤ pos by -ℤ pos across = omega (arith, ints) in
    let next : across + by + w ≡ across + w + by = omega arith in
    rw (here, next, glyphs-moved font cs (across + w) by x y) refl

pub texts_join : (font one other : List ℕ) (pen p : Point) → text_holds font (one ++ other) pen p ≡ (text_holds font one pen p || text_holds font other (record { h = pen.h +ℤ pos (text_width font one); v = pen.v }) p)
unfolding text_holds
texts_join font one other pen p =
    let w = text_width font one in
    let seen : p.h -ℤ pen.h -ℤ pos w ≡ p.h -ℤ (pen.h +ℤ pos w) = omega (arith, ints) in
    rw (glyphs-join font one other 0 (p.h -ℤ pen.h) (p.v -ℤ pen.v), glyphs-moved font other 0 w (p.h -ℤ pen.h) (p.v -ℤ pen.v), seen) refl
