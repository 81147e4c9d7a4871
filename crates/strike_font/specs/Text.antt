-- The pixels of glyphs and texts.
use Rattle.std.specs.Prelude.{◌≡◌, ℕ, ◌+◌, ◌-◌, ◌*◌, ◌/◌, ◌%◌, ◌^◌, ◌<◌, ℤ, pos, negsuc, ◌+ℤ◌, ◌-ℤ◌, ◌≤ℤ◌, Bool, true, false, not, cond, ◌&&◌, ◌||◌, nat_lt, nat_eq, int_le, List, [], ◌∷◌, length, take, slice_index}
use Rattle.tb_geom.specs.declared.point.Point.{Point}
use Rattle.tb_geom.specs.declared.rect.Rect.{Rect}
use Rattle.tb_geom.specs.Points.{PixelSet}
use Rattle.bit_map.specs.Patterns.{bit_of}
use Rattle.strike_font.specs.declared.glyph.Glyph.{Glyph}
use Rattle.strike_font.specs.Record.{first_char, last_char, kern, height, ascent, words_of_row, last_symbol, location, entry, gap}

-- the symbol that a character is drawn by: its own, or the missing symbol where the font lacks it
unfoldable pub symbol_of : List ℕ → ℕ → ℕ
symbol_of font c =
    let own = gap (first_char font) (pos c) in
    cond ((int_le (first_char font) (pos c) && int_le (pos c) (last_char font)) && not (nat_eq (entry font own) 65535)) own (last_symbol font)

-- the glyph of a symbol
abbrev pub glyph_at : List ℕ → ℕ → Glyph
glyph_at font s = record { first = location font s; columns = location font (s + 1) - location font s; offset = entry font s / 256; width = entry font s % 256 }

-- the glyph of a character
unfoldable pub glyph_of : List ℕ → ℕ → Glyph
glyph_of font c = glyph_at font (symbol_of font c)

-- how far a text moves the pen: the sum of its characters' widths
abbrev pub text_width : List ℕ → List ℕ → ℕ
text_width font [] = 0
text_width font (c ∷ cs) = (glyph_of font c).width + text_width font cs

-- the bit of the image in a column and a row, of which each takes 2 * rowWords bytes, the high bit left
unfoldable pub image_bit : List ℕ → ℕ → ℕ → Bool
image_bit font column row = bit_of (slice_index font (26 + row * (2 * words_of_row font) + column / 8)) (column % 8)

-- the bit of a glyph in a column and a row; it has none outside its own
abbrev pub glyph_bit : List ℕ → Glyph → ℤ → ℤ → Bool
glyph_bit font g (pos k) (pos r) = (nat_lt k g.columns && nat_lt r (height font)) && image_bit font (g.first + k) r
glyph_bit font g (negsuc k) r = false
glyph_bit font g (pos k) (negsuc r) = false

-- whether a glyph has the pixel x columns right of the pen and y rows below the baseline: its first column lies
-- kernMax + offset columns right of the pen, and its top row the ascent above the baseline
unfoldable pub glyph_pixel : List ℕ → Glyph → ℤ → ℤ → Bool
glyph_pixel font g x y = glyph_bit font g (x -ℤ (kern font +ℤ pos g.offset)) (y +ℤ pos (ascent font))

-- the same for a text whose first character stands `across` columns right of the pen, and each later one where the
-- widths of those before have moved the pen to
abbrev pub glyphs_pixel : List ℕ → List ℕ → ℕ → ℤ → ℤ → Bool
glyphs_pixel font [] across x y = false
glyphs_pixel font (c ∷ cs) across x y = glyph_pixel font (glyph_of font c) (x -ℤ pos across) y || glyphs_pixel font cs (across + (glyph_of font c).width) x y

-- the pixels of a text whose pen starts at a point on the baseline
unfoldable pub text_holds : List ℕ → List ℕ → Point → PixelSet
text_holds font text pen p = glyphs_pixel font text 0 (p.h -ℤ pen.h) (p.v -ℤ pen.v)

-- the same in other words: some column k and row r of some character's glyph have a bit of 1, and the point lies at
-- h = pen + kernMax + offset + k and v = baseline - ascent + r, where the widths of the characters before have moved
-- the pen
pub record IsTextPixel (font text : List ℕ) (pen p : Point) : Type 0 where
  pub at : ℕ
  pub column : ℕ
  pub row : ℕ
  pub at_in : at < length text
  pub column_in : column < (glyph_of font (slice_index text at)).columns
  pub row_in : row < height font
  pub bit : image_bit font ((glyph_of font (slice_index text at)).first + column) row ≡ true
  pub h_is : p.h ≡ pen.h +ℤ pos (text_width font (take at text)) +ℤ kern font +ℤ pos (glyph_of font (slice_index text at)).offset +ℤ pos column
  pub v_is : p.v ≡ pen.v -ℤ pos (ascent font) +ℤ pos row

-- the rectangle of a glyph's columns and rows, seen from where the pen started, which has come `across` columns
abbrev pub glyph_rect : List ℕ → Glyph → ℕ → Rect
glyph_rect font g across =
    let left = pos across +ℤ (kern font +ℤ pos g.offset) in
    record { left = left; top = pos 0 -ℤ pos (ascent font); right = left +ℤ pos g.columns; bottom = pos (height font) -ℤ pos (ascent font) }

-- a number of -2^bits - 1 .. 2^bits
pub record IsSized (bits : ℕ) (x : ℤ) : Type 0 where
  pub low : negsuc (2 ^ bits) ≤ℤ x
  pub high : x ≤ℤ pos (2 ^ bits)
