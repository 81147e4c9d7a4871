-- What the words of a region's bytes say: a box, and the data after it.
use Rattle.std.specs.Prelude.{◌≡◌, ℕ, ◌+◌, ◌*◌, ◌≤◌, false, List, [], ◌∷◌, length, ℤ, pos, All}
use Rattle.tb_geom.specs.declared.rect.Rect.{Rect}
use Rattle.tb_geom.specs.Points.{PixelSet}
use Rattle.tb_geom.specs.Rects.{rect_holds}
use Rattle.tb_geom.specs.Pixels.{Pixels, pixels_where}
use Rattle.region_bytes.specs.Points.{PointRow, inverted, IsCanonical}
use Rattle.region_bytes.specs.Words.{words_in, words_of, is_short}
use Rattle.region_bytes.specs.Bytes.{IsWord, IsOfWords, IsWithoutEnd}
use Rattle.region_bytes.specs.Scan.{points_in}

-- the box and the words of data after it are those of the rows, which may lie outside -16384..16383
pub record IsText (box : Rect) (ws : List ℤ) (rows : List PointRow) : Type 0 where
  pub canonical : IsCanonical rows
  pub words : All IsOfWords rows
  pub told : is_short rows ≡ false → All IsWithoutEnd rows
  pub written : words_of rows ≡ box.top ∷ box.left ∷ box.bottom ∷ box.right ∷ ws

-- the pixels of a box and the words of data after it: without data those of the box, else those that the points invert
unfoldable pub text_pixels : Rect → List ℤ → PixelSet
text_pixels box [] p = rect_holds box p
text_pixels box (w ∷ ws) p = inverted (points_in false (pos 0) (w ∷ ws)) p

-- the pixels of all words of a region's bytes, of which the first is the size
unfoldable pub word_pixels : List ℤ → PixelSet
word_pixels (size ∷ top ∷ left ∷ bottom ∷ right ∷ ws) p = text_pixels (record { left = left; top = top; right = right; bottom = bottom }) ws p
word_pixels other p = false

-- the set of pixels that bytes say
unfoldable pub pixels_of : List ℕ → Pixels
pixels_of bytes = pixels_where (λ h v. word_pixels (words_in bytes) (record { h = h; v = v }))

-- the bytes are their own number, a box, and the bytes after it
pub record IsParted (bytes : List ℕ) (box : Rect) (after : List ℕ) : Type 0 where
  pub words : words_in bytes ≡ pos (length bytes) ∷ box.top ∷ box.left ∷ box.bottom ∷ box.right ∷ words_in after
  pub size : length bytes ≡ 10 + length after
  pub even : length bytes ≡ 2 * length (words_in bytes)
  pub fits : length bytes ≤ 32766

-- the sides are numbers of 16 bits
abbrev pub IsRectOfWords : Rect → Type 0
IsRectOfWords box = All IsWord (box.top ∷ box.left ∷ box.bottom ∷ box.right ∷ [])
