-- One drawing on a canvas over another that drew all of it.
use Rattle.std.proofs.Common.{◌≡◌, List, ℕ, zero, suc, ◌<◌, Bool, true, false, not, cond, ◌&&◌, if◌then◌else◌, ℤ, pos, negsuc, refl, ap, ◌∙◌, arith}
use Rattle.std.specs.Prelude.{slice_index, replicate}
use Rattle.tb_geom.specs.declared.point.Point.{Point}
use Rattle.tb_geom.specs.declared.rect.Rect.{Rect}
use Rattle.tb_geom.specs.Points.{PixelSet, minus}
use Rattle.tb_geom.specs.Rects.{rect_holds}
use Rattle.bit_map.specs.Bits.{Bits}
use Rattle.bit_map.specs.declared.mode.Mode.TheVariants.{Copy, Or}
use Rattle.bit_map.specs.declared.pattern.Pattern.{Pattern}
use Rattle.bit_map.specs.Modes.{mode_bit}
use Rattle.bit_map.specs.Patterns.{pattern_bit, bit_of, eighth_of}
use Rattle.bit_blit.specs.Draws.{Draws}
use Rattle.bit_blit.proofs.DrawsLemmas.{Draws-over, Draws-where}
use Rattle.strike_font.specs.Text.{text_holds}
use Rattle.scan_region.specs.Cuts.{cut_holds}
use Rattle.draw_port.specs.Canvases.{canvas_holds, canvas_point, SameFrame}
use Rattle.draw_port.specs.declared.canvas.Canvas.{Canvas}

-- a drawing on all of a canvas and then one on a part of it draw a picture on it, where the two values together are the picture's
pub Draws-canvas-over : (c d : Canvas) (part picture : PixelSet) (f g : Point → Bool → Bool) (first middle last : Bits)
    → SameFrame c d
    → ((p : Point) (old : Bool) → cond (part (canvas_point c p)) (g p (f p old)) (f p old) ≡ picture (canvas_point c p))
    → Draws (canvas_holds c) f first middle
    → Draws (λ p. canvas_holds d p && part (canvas_point d p)) g middle last
    → Draws (canvas_holds c) (λ p _. picture (canvas_point c p)) first last
Draws-canvas-over c d part picture f g first middle last same one drawn over =
    Draws-over (canvas_holds c) (λ p. canvas_holds c p && part (canvas_point c p)) (canvas_holds c) f g (λ p _. picture (canvas_point c p)) first middle last
    (λ p old on. by_test p old (canvas_holds c p))
    drawn
    (Draws-where _ _ g middle last (λ p on. same_pixel p) over)
  where
    same_pixel : (p : Point) → (canvas_holds d p && part (canvas_point d p)) ≡ (canvas_holds c p && part (canvas_point c p))
    same_pixel p = λ i. (rect_holds (same.clip i) p && cut_holds ((same.cut i).now) p) && part (minus p (same.origin i))

    by_test : (p : Point) (old held : Bool) → cond (held && part (canvas_point c p)) (g p (cond held (f p old) old)) (cond held (f p old) old) ≡ cond held (picture (canvas_point c p)) old
    by_test p old true = one p old
    by_test p old false = refl

-- a pattern that is copied onto a rectangle of a canvas lies over the picture that was drawn on all of it
pub Draws-pattern-over : (c d : Canvas) (rect inner : Rect) (pattern : Pattern) (below : PixelSet) (first middle last : Bits)
    → SameFrame c d → inner ≡ rect
    → Draws (canvas_holds c) (λ p _. below (canvas_point c p)) first middle
    → Draws (λ p. canvas_holds d p && rect_holds inner (canvas_point d p)) (λ p old. mode_bit Copy (pattern_bit pattern (canvas_point d p)) old) middle last
    → Draws (canvas_holds c) (λ p _. if rect_holds rect (canvas_point c p) then pattern_bit pattern (canvas_point c p) else below (canvas_point c p)) first last
Draws-pattern-over c d rect inner pattern below first middle last same e drawn over =
    Draws-canvas-over c d (rect_holds inner) (λ p. if rect_holds rect p then pattern_bit pattern p else below p) _ _ first middle last same
    (λ p old i. if rect_holds (e i) (canvas_point c p) then pattern_bit pattern (minus p (same.origin i)) else below (canvas_point c p))
    drawn over

-- a text that is put onto a canvas in black lies over the picture that was drawn on all of it
pub Draws-text-over : (c d : Canvas) (text : List ℕ) (pen : Point) (below : PixelSet) (first middle last : Bits)
    → SameFrame c d
    → Draws (canvas_holds c) (λ p _. below (canvas_point c p)) first middle
    → Draws (λ p. canvas_holds d p && text_holds d.font.now text pen (canvas_point d p)) (λ p old. mode_bit Or true old) middle last
    → Draws (canvas_holds c) (λ p _. if text_holds c.font.now text pen (canvas_point c p) then true else below (canvas_point c p)) first last
Draws-text-over c d text pen below first middle last same drawn over =
    Draws-canvas-over c d (text_holds d.font.now text pen) (λ p. if text_holds c.font.now text pen p then true else below p) _ _ first middle last same
    (λ p old i. if text_holds ((same.font i).now) text pen (canvas_point c p) then true else below (canvas_point c p))
    drawn over

-- ---- black and white

-- a pattern whose rows all have this byte
abbrev pub equal_rows : ℕ → Pattern
equal_rows byte = record { rows = replicate 8 byte }

-- a remainder by 8 is below 8
eighth-below : (x : ℤ) → eighth_of x < 8
eighth-below (pos n) = omega arith
eighth-below (negsuc n) = omega arith

-- what holds of each number below 8
each_below_eight : (P : ℕ → Type 0) → P 0 → P 1 → P 2 → P 3 → P 4 → P 5 → P 6 → P 7 → (k : ℕ) → k < 8 → P k
each_below_eight P a b c d e f g h zero l = a
each_below_eight P a b c d e f g h (suc zero) l = b
each_below_eight P a b c d e f g h (suc (suc zero)) l = c
each_below_eight P a b c d e f g h (suc (suc (suc zero))) l = d
each_below_eight P a b c d e f g h (suc (suc (suc (suc zero)))) l = e
each_below_eight P a b c d e f g h (suc (suc (suc (suc (suc zero))))) l = f
each_below_eight P a b c d e f g h (suc (suc (suc (suc (suc (suc zero)))))) l = g
each_below_eight P a b c d e f g h (suc (suc (suc (suc (suc (suc (suc zero))))))) l = h
each_below_eight P a b c d e f g h (suc (suc (suc (suc (suc (suc (suc (suc k)))))))) l = absurd (omega arith)

-- each bit of 255 is black
black-bit : (k : ℕ) → k < 8 → bit_of 255 k ≡ true
black-bit = each_below_eight (λ k. bit_of 255 k ≡ true) refl refl refl refl refl refl refl refl

-- each bit of 0 is white
white-bit : (k : ℕ) → k < 8 → bit_of 0 k ≡ false
white-bit = each_below_eight (λ k. bit_of 0 k ≡ false) refl refl refl refl refl refl refl refl

-- each row of such a pattern is the byte
row-byte : (byte k : ℕ) → k < 8 → slice_index (replicate 8 byte) k ≡ byte
row-byte byte = each_below_eight (λ k. slice_index (replicate 8 byte) k ≡ byte) refl refl refl refl refl refl refl refl

-- the black pattern is black at every point
black_everywhere : (p : Point) → pattern_bit (equal_rows 255) p ≡ true
black_everywhere p = ap (λ byte. bit_of byte (eighth_of p.h)) (row-byte 255 (eighth_of p.v) (eighth-below p.v)) ∙ black-bit (eighth_of p.h) (eighth-below p.h)

-- the white pattern is black nowhere
pub white_everywhere : (p : Point) → pattern_bit (equal_rows 0) p ≡ false
white_everywhere p = ap (λ byte. bit_of byte (eighth_of p.h)) (row-byte 0 (eighth_of p.v) (eighth-below p.v)) ∙ white-bit (eighth_of p.h) (eighth-below p.h)

-- black on all of a canvas and then white on a rectangle of it: black where the rectangle is not
pub Draws-black-around : (c d : Canvas) (rect inner : Rect) (first middle last : Bits)
    → SameFrame c d → inner ≡ rect
    → Draws (canvas_holds c) (λ p old. mode_bit Copy (pattern_bit (equal_rows 255) (canvas_point c p)) old) first middle
    → Draws (λ p. canvas_holds d p && rect_holds inner (canvas_point d p)) (λ p old. mode_bit Copy (pattern_bit (equal_rows 0) (canvas_point d p)) old) middle last
    → Draws (canvas_holds c) (λ p _. not (rect_holds rect (canvas_point c p))) first last
Draws-black-around c d rect inner first middle last same e drawn over =
    Draws-canvas-over c d (rect_holds inner) (λ p. not (rect_holds rect p)) _ _ first middle last same
    (λ p old. by_test (rect_holds inner (canvas_point c p)) _ _ (black_everywhere (canvas_point c p)) (white_everywhere (canvas_point d p)) ∙ ap (λ r. not (rect_holds r (canvas_point c p))) e)
    drawn over
  where
    by_test : (inside x y : Bool) → x ≡ true → y ≡ false → cond inside y x ≡ not inside
    by_test true x y e f = f
    by_test false x y e f = e
