-- A column of pixels, inverted where gray is black.
use Rattle.std.proofs.Common.{◌≡◌, ℕ, suc, zero, ◌+◌, ◌%◌, ◌<◌, Bool, true, false, not, cond, ◌||◌, ℤ, pos, negsuc, ◌+ℤ◌, ◌≤ℤ◌, ◌<ℤ◌, refl, sym, ap, ◌∙◌, arith}
use Rattle.std.specs.Prelude.{slice_index}
use Rattle.std.proofs.lemmas.Int.{ints}
use Rattle.tb_geom.specs.declared.point.Point.{Point}
use Rattle.tb_geom.specs.declared.rect.Rect.{Rect}
use Rattle.tb_geom.specs.Points.{minus}
use Rattle.tb_geom.specs.Rects.{rect_holds}
use Rattle.tb_geom.proofs.PointLemmas.{origin, minus-origin}
use Rattle.bit_map.specs.Bits.{Bits, bit, is_point}
use Rattle.bit_map.specs.declared.mode.Mode.TheVariants.{Xor}
use Rattle.bit_map.specs.Modes.{mode_bit, xor_bit}
use Rattle.bit_map.specs.Patterns.{bit_of, eighth_of, pattern_bit, gray}
use Rattle.bit_map.proofs.BitsLemmas.{is_point-is}
use Rattle.bit_blit.specs.Draws.{Draws, DrawsOnce}
use Rattle.bit_blit.proofs.DrawsLemmas.{Draws-more, Draws-none, Draws-once, Draws-same, Draws-value}
use Rattle.bit_blit.proofs.WalkLemmas.{in_rows, in_rows-none}
use Rattle.overlay.proofs.OutlineLemmas.{inverted}

-- a pattern whose origin is that of the map
pub gray_inverted : (r : Rect) (a b : Bits) → DrawsOnce (rect_holds r) (λ p d. mode_bit Xor (pattern_bit gray (minus p origin)) d) a b
    → Draws (rect_holds r) inverted a b
gray_inverted r a b drawn = Draws-value (rect_holds r) _ inverted a b (λ p d. ap (λ q. xor_bit (pattern_bit gray q) d) (minus-origin p)) (Draws-once _ _ a b drawn)

-- ---- gray, from row to row

turned : (j : ℕ) → j < 8 → bit_of 0x55 j ≡ not (bit_of 0xAA j)
turned zero low = refl
turned (suc zero) low = refl
turned (suc (suc zero)) low = refl
turned (suc (suc (suc zero))) low = refl
turned (suc (suc (suc (suc zero)))) low = refl
turned (suc (suc (suc (suc (suc zero))))) low = refl
turned (suc (suc (suc (suc (suc (suc zero)))))) low = refl
turned (suc (suc (suc (suc (suc (suc (suc zero))))))) low = refl
turned (suc (suc (suc (suc (suc (suc (suc (suc j)))))))) low = absurd (omega arith)

not_not : (a b : Bool) → a ≡ not b → b ≡ not a
not_not a true e = ap not (sym e)
not_not a false e = ap not (sym e)

next_row : (a j : ℕ) → a < 8 → j < 8 → bit_of (slice_index gray.rows ((a + 1) % 8)) j ≡ not (bit_of (slice_index gray.rows a) j)
next_row zero j here low = turned j low
next_row (suc zero) j here low = not_not _ _ (turned j low)
next_row (suc (suc zero)) j here low = turned j low
next_row (suc (suc (suc zero))) j here low = not_not _ _ (turned j low)
next_row (suc (suc (suc (suc zero)))) j here low = turned j low
next_row (suc (suc (suc (suc (suc zero))))) j here low = not_not _ _ (turned j low)
next_row (suc (suc (suc (suc (suc (suc zero)))))) j here low = turned j low
next_row (suc (suc (suc (suc (suc (suc (suc zero))))))) j here low = not_not _ _ (turned j low)
next_row (suc (suc (suc (suc (suc (suc (suc (suc a)))))))) j here low = absurd (omega arith)

column_low : (h : ℤ) → eighth_of h < 8
column_low (pos n) = omega arith
column_low (negsuc n) = omega arith

-- below a black pixel of gray lies a white one, and below that a black one
pub gray_turns : (h v : ℤ) → pos 0 ≤ℤ v → pattern_bit gray (record { h = h; v = v +ℤ pos 1 }) ≡ not (pattern_bit gray (record { h = h; v = v }))
gray_turns h (pos n) low =
    let next : (n + 1) % 8 ≡ (n % 8 + 1) % 8 = omega arith in
    ap (λ a. bit_of (slice_index gray.rows a) (eighth_of h)) next ∙ next_row (n % 8) (eighth_of h) (omega arith) (column_low h)
gray_turns h (negsuc n) low = absurd (omega (arith, ints))

-- ---- a column, pixel by pixel

-- a pixel of a map that is as it was
pub left_white : (q : Point) (black : Bool) (a : Bits) → black ≡ false → Draws (is_point q) (λ _ old. xor_bit black old) a a
left_white q black a white = record {
  pixels = λ p on. kept (is_point q p) black (bit a p) white;
  width = refl;
  height = refl;
}
  where
    kept : (here black d : Bool) → black ≡ false → d ≡ cond here (xor_bit black d) d
    kept true true d e = absurd (cc)
    kept true false d e = refl
    kept false black d e = refl

pub turned_black : (q : Point) (black value : Bool) (a b : Bits) → black ≡ true → value ≡ not (bit a q)
    → ((p : Point) → bit b p ≡ cond (is_point q p) value (bit a p)) → b.width ≡ a.width → b.height ≡ a.height
    → Draws (is_point q) (λ _ old. xor_bit black old) a b
turned_black q black value a b is value_is set wide high = record {
  pixels = λ p on. set p ∙ by_test p (is_point q p) refl;
  width = wide;
  height = high;
}
  where
    by_test : (p : Point) (t : Bool) → is_point q p ≡ t → cond t value (bit a p) ≡ cond t (xor_bit black (bit a p)) (bit a p)
    by_test p true here = value_is ∙ ap (λ x. not (bit a x)) (sym (is_point-is q p here)) ∙ ap (λ b. xor_bit b (bit a p)) (sym is)
    by_test p false away = refl

-- so it is inverted where gray is black
at_point : (q : Point) (black : Bool) (a b : Bits) → black ≡ pattern_bit gray q → Draws (is_point q) (λ _ old. xor_bit black old) a b → Draws (is_point q) inverted a b
at_point q black a b is drawn = Draws-same (is_point q) (is_point q) (λ _ old. xor_bit black old) inverted a b (λ p d on. by_test p d (is_point q p) refl) drawn
  where
    by_test : (p : Point) (d : Bool) (t : Bool) → is_point q p ≡ t → cond t (xor_bit black d) d ≡ cond t (inverted p d) d
    by_test p d true here = ap (λ b. xor_bit b d) (is ∙ ap (pattern_bit gray) (sym (is_point-is q p here)))
    by_test p d false away = refl

pixel_apart : (left right top v : ℤ) (p : Point) → is_point (record { h = left; v = v }) p ≡ true → in_rows left right top v p ≡ false
pixel_apart left right top v p e = grind (arith, ints)

pixel_more : (left right top v : ℤ) (p : Point) → right ≡ left +ℤ pos 1 → top ≤ℤ v
    → in_rows left right top (v +ℤ pos 1) p ≡ (is_point (record { h = left; v = v }) p || in_rows left right top v p)
pixel_more left right top v p one low = grind (arith, ints)

-- one pixel more
pub column_more : (left right top v : ℤ) (black : Bool) (a b c : Bits) → right ≡ left +ℤ pos 1 → top ≤ℤ v → black ≡ pattern_bit gray (record { h = left; v = v })
    → Draws (in_rows left right top v) inverted a b → Draws (is_point (record { h = left; v = v })) (λ _ old. xor_bit black old) b c
    → Draws (in_rows left right top (v +ℤ pos 1)) inverted a c
column_more left right top v black a b c one low is drawn pixel =
    Draws-more (in_rows left right top v) (is_point (record { h = left; v = v })) (in_rows left right top (v +ℤ pos 1)) inverted a b c
    (pixel_apart left right top v) (λ p. pixel_more left right top v p one low) drawn (at_point (record { h = left; v = v }) black b c is pixel)

-- a pixel of the column
pub column_has : (column : Rect) (v : ℤ) → column.right ≡ column.left +ℤ pos 1 → column.top ≤ℤ v → v <ℤ column.bottom
    → rect_holds column (record { h = column.left; v = v }) ≡ true
column_has column v one low below = grind (arith, ints)

pub column_begins : (left right top : ℤ) (a : Bits) → Draws (in_rows left right top top) inverted a a
column_begins left right top a = Draws-none (in_rows left right top top) inverted a (λ p on. in_rows-none left right top p)
