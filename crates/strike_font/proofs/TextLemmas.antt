-- The pixels of glyphs and texts.
use Rattle.std.proofs.Common.{◌≡◌, ◌⊎◌, ℕ, zero, suc, ◌+◌, ◌<◌, ℤ, pos, negsuc, ◌+ℤ◌, ◌-ℤ◌, Bool, true, false, ◌&&◌, ◌||◌, List, [], ◌∷◌, length, take, drop, get_or, refl, arith, inl, inr, nat_lt, add-one, drop-cons}
use Rattle.std.proofs.lemmas.Bool.{ltb-true, lt-ltb, and_parts}
use Rattle.std.proofs.lemmas.Int.{ints}
use Rattle.tb_geom.specs.declared.point.Point.{Point}
use Rattle.strike_font.specs.declared.glyph.Glyph.{Glyph}
use Rattle.strike_font.specs.Record.{kern, ascent, height}
use Rattle.strike_font.specs.Text.{glyph_of, glyph_bit, glyph_pixel, glyphs_pixel, text_holds, image_bit, text_width, IsTextPixel}

or_cases : (a b : Bool) → (a || b) ≡ true → (a ≡ true) ⊎ (b ≡ true)
or_cases true b e = inl refl
or_cases false b e = inr e

or_right : (a b : Bool) → b ≡ true → (a || b) ≡ true
or_right true b e = refl
or_right false b e = e

or_left : (a b : Bool) → a ≡ true → (a || b) ≡ true
or_left true b e = refl
or_left false b e = absurd (cc)

-- what reading a glyph's pixel by its column and row gives
pub glyph-is : (font : List ℕ) (g : Glyph) (asc : ℕ) (k x y column row : ℤ) (r : Bool) → k ≡ kern font → asc ≡ ascent font → column ≡ x -ℤ (k +ℤ pos g.offset) → row ≡ y +ℤ pos asc → r ≡ glyph_bit font g column row → r ≡ glyph_pixel font g x y
unfolding glyph_pixel
glyph-is font g asc k x y column row r is_k is_asc is_column is_row e = rw (is_column, is_row, is_k, is_asc) at e

-- ---- a loop over the characters of a text

-- the character at i has the pixel
pub glyphs-found : (font text : List ℕ) (i across : ℕ) (x y there : ℤ) (g : Glyph) → i < length text → g ≡ glyph_of font (get_or text i 0) → there ≡ x -ℤ pos across → glyph_pixel font g there y ≡ true → glyphs_pixel font (drop i text) across x y ≡ true
glyphs-found font text i across x y there g i_in is_g is_x e =
    let here : glyph_pixel font (glyph_of font (get_or text i 0)) (x -ℤ pos across) y ≡ true = rw (is_g, is_x) at e in
    rw (drop-cons text i 0 i_in) (or_left _ _ here)

-- the character at i does not have it
pub glyphs-next : (font text : List ℕ) (i across w : ℕ) (x y there : ℤ) (g : Glyph) → i < length text → g ≡ glyph_of font (get_or text i 0) → there ≡ x -ℤ pos across → glyph_pixel font g there y ≡ false → w ≡ g.width → glyphs_pixel font (drop i text) across x y ≡ glyphs_pixel font (drop (i + 1) text) (across + w) x y
glyphs-next font text i across w x y there g i_in is_g is_x e is_w =
    let not_here : glyph_pixel font (glyph_of font (get_or text i 0)) (x -ℤ pos across) y ≡ false = rw (is_g, is_x) at e in
    rw (drop-cons text i 0 i_in, add-one, is_w, is_g, not_here) refl

-- ---- the pixels of a text by character, column and row

-- a bit of a glyph lies x columns right of the pen and y rows below the baseline
pub record IsGlyphPixel (font : List ℕ) (g : Glyph) (x y : ℤ) : Type 0 where
  pub column : ℕ
  pub row : ℕ
  pub column_in : column < g.columns
  pub row_in : row < height font
  pub bit : image_bit font (g.first + column) row ≡ true
  pub x_is : x -ℤ (kern font +ℤ pos g.offset) ≡ pos column
  pub y_is : y +ℤ pos (ascent font) ≡ pos row

pub glyph-to : (font : List ℕ) (g : Glyph) (x y : ℤ) → glyph_pixel font g x y ≡ true → IsGlyphPixel font g x y
unfolding glyph_pixel
glyph-to font g x y e = by_place (x -ℤ (kern font +ℤ pos g.offset)) (y +ℤ pos (ascent font)) refl refl e
  where
    by_place : (k r : ℤ) → x -ℤ (kern font +ℤ pos g.offset) ≡ k → y +ℤ pos (ascent font) ≡ r → glyph_bit font g k r ≡ true → IsGlyphPixel font g x y
    by_place (pos column) (pos row) is_k is_r bit =
        let parts = and_parts (nat_lt column g.columns && nat_lt row (height font)) (image_bit font (g.first + column) row) bit in
        let place = and_parts (nat_lt column g.columns) (nat_lt row (height font)) parts.0 in
        record { column = column; row = row; column_in = ltb-true _ _ place.0; row_in = ltb-true _ _ place.1; bit = parts.1; x_is = is_k; y_is = is_r }
    by_place (pos column) (negsuc row) is_k is_r bit = absurd (cc)
    by_place (negsuc column) r is_k is_r bit = absurd (cc)

glyph-from : (font : List ℕ) (g : Glyph) (x y : ℤ) → IsGlyphPixel font g x y → glyph_pixel font g x y ≡ true
unfolding glyph_pixel
glyph-from font g x y f = rw (f.x_is, f.y_is, lt-ltb f.column g.columns f.column_in, lt-ltb f.row (height font) f.row_in, f.bit) refl

-- some glyph of a text has the pixel, `across` columns right of the pen
pub record IsTextAt (font text : List ℕ) (across : ℕ) (x y : ℤ) : Type 0 where
  pub at : ℕ
  pub at_in : at < length text
  pub pixel : IsGlyphPixel font (glyph_of font (get_or text at 0)) (x -ℤ pos (across + text_width font (take at text))) y

-- moving the pen in two steps
two_steps : (x : ℤ) (across a w : ℕ) → x -ℤ pos (across + (a + w)) ≡ x -ℤ pos (across + a + w)
two_steps x across a w = omega (arith, ints)

no_step : (x : ℤ) (across : ℕ) → x -ℤ pos (across + 0) ≡ x -ℤ pos across
no_step x across = omega (arith, ints)

pub glyphs-to : (font text : List ℕ) (across : ℕ) (x y : ℤ) → glyphs_pixel font text across x y ≡ true → IsTextAt font text across x y
glyphs-to font [] across x y e = absurd (cc)
glyphs-to font (c ∷ cs) across x y e = elim (or_cases (glyph_pixel font (glyph_of font c) (x -ℤ pos across) y) (glyphs_pixel font cs (across + (glyph_of font c).width) x y) e) [
  | inl here ↦ record {
    at = 0;
    at_in = omega arith;
    pixel = rw (no_step x across) (glyph-to font (glyph_of font c) (x -ℤ pos across) y here);
  }
  | inr later ↦
      let f = glyphs-to font cs (across + (glyph_of font c).width) x y later in
      record {
        at = suc f.at;
        at_in = let h = f.at_in in omega arith;
        pixel = rw (two_steps x across (glyph_of font c).width (text_width font (take f.at cs))) f.pixel;
      }
]

pub glyphs-from : (font text : List ℕ) (across at : ℕ) (x y : ℤ) → at < length text → IsGlyphPixel font (glyph_of font (get_or text at 0)) (x -ℤ pos (across + text_width font (take at text))) y → glyphs_pixel font text across x y ≡ true
glyphs-from font [] across at x y at_in f = absurd (omega arith)
glyphs-from font (c ∷ cs) across zero x y at_in f =
    or_left _ _ (glyph-from font (glyph_of font c) (x -ℤ pos across) y (rw (no_step x across) at f))
glyphs-from font (c ∷ cs) across (suc at) x y at_in f =
    or_right (glyph_pixel font (glyph_of font c) (x -ℤ pos across) y) _
    (glyphs-from font cs (across + (glyph_of font c).width) at x y (omega arith) (rw (two_steps x across (glyph_of font c).width (text_width font (take at cs))) at f))

to-h : (h pen k : ℤ) (w o column : ℕ) → h -ℤ pen -ℤ pos (0 + w) -ℤ (k +ℤ pos o) ≡ pos column → h ≡ pen +ℤ pos w +ℤ k +ℤ pos o +ℤ pos column
to-h h pen k w o column e = omega (arith, ints)

from-h : (h pen k : ℤ) (w o column : ℕ) → h ≡ pen +ℤ pos w +ℤ k +ℤ pos o +ℤ pos column → h -ℤ pen -ℤ pos (0 + w) -ℤ (k +ℤ pos o) ≡ pos column
from-h h pen k w o column e = omega (arith, ints)

to-v : (v baseline : ℤ) (a row : ℕ) → v -ℤ baseline +ℤ pos a ≡ pos row → v ≡ baseline -ℤ pos a +ℤ pos row
to-v v baseline a row e = omega (arith, ints)

from-v : (v baseline : ℤ) (a row : ℕ) → v ≡ baseline -ℤ pos a +ℤ pos row → v -ℤ baseline +ℤ pos a ≡ pos row
from-v v baseline a row e = omega (arith, ints)

pub text-to : (font text : List ℕ) (pen p : Point) → text_holds font text pen p ≡ true → IsTextPixel font text pen p
unfolding text_holds
text-to font text pen p e =
    let f = glyphs-to font text 0 (p.h -ℤ pen.h) (p.v -ℤ pen.v) e in
    let g = glyph_of font (get_or text f.at 0) in
    record {
      at = f.at;
      column = f.pixel.column;
      row = f.pixel.row;
      at_in = f.at_in;
      column_in = f.pixel.column_in;
      row_in = f.pixel.row_in;
      bit = f.pixel.bit;
      h_is = to-h p.h pen.h (kern font) (text_width font (take f.at text)) g.offset f.pixel.column f.pixel.x_is;
      v_is = to-v p.v pen.v (ascent font) f.pixel.row f.pixel.y_is;
    }

pub text-from : (font text : List ℕ) (pen p : Point) → IsTextPixel font text pen p → text_holds font text pen p ≡ true
unfolding text_holds
text-from font text pen p f =
    let g = glyph_of font (get_or text f.at 0) in
    glyphs-from font text 0 f.at (p.h -ℤ pen.h) (p.v -ℤ pen.v) f.at_in
    (record {
      column = f.column;
      row = f.row;
      column_in = f.column_in;
      row_in = f.row_in;
      bit = f.bit;
      x_is = from-h p.h pen.h (kern font) (text_width font (take f.at text)) g.offset f.column f.h_is;
      y_is = from-v p.v pen.v (ascent font) f.row f.v_is;
    })
