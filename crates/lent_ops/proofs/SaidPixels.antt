-- The bytes of a set of pixels say that set.
use Rattle.std.proofs.Common.{◌≡◌, ℕ, ◌<◌, ℤ, pos, ◌&&◌, cond, List, [], ◌∷◌, ◌++◌, length, Option, None, Some, refl, sym, ap, ◌∙◌, arith}
use Rattle.tb_geom.specs.declared.point.Point.{Point}
use Rattle.tb_geom.specs.declared.rect.Rect.{Rect}
use Rattle.tb_geom.specs.Pixels.{Pixels, holds}
use Rattle.tb_geom.specs.Rects.{in_plane}
use Rattle.tb_geom.proofs.PixelsLemmas.{same_holds, test_holds}
use Rattle.region_bytes.specs.Bytes.{IsForm, IsRegionBytes}
use Rattle.region_bytes.specs.Points.{PointRow, inverted, points_of}
use Rattle.region_bytes.specs.Text.{pixels_of, word_pixels}
use Rattle.region_bytes.specs.Words.{box_of, box_words, data_words, is_short, words_in, words_of}
use Rattle.region_bytes.proofs.Formed.{region_form}
use Rattle.region_bytes.proofs.Parted.{form_words, too_few}
use Rattle.region_bytes.proofs.Said.{in_plane_of, text_holds}

-- bytes without words are few
few_bytes : (bytes : List ℕ) → words_in bytes ≡ [] → length bytes < 10
unfolding words_in
few_bytes [] none = omega arith
few_bytes (a ∷ []) none = omega arith
few_bytes (a ∷ b ∷ bytes) none = absurd (cc)

-- the words of a box and the data after it say the pixels of the rows
of_box : (size : ℤ) (box : Option Rect) (data_of : List ℤ) (bytes : List ℕ) (rows : List PointRow) → IsForm bytes rows → words_of rows ≡ box_words box ++ data_of
    → (p : Point) → word_pixels (size ∷ (box_words box ++ data_of)) p ≡ inverted (points_of rows) p
unfolding word_pixels
of_box size None data_of bytes rows f same p =
    text_holds (record { left = pos 0; top = pos 0; right = pos 0; bottom = pos 0 }) data_of rows (record { canonical = f.canonical; words = f.words; told = f.told; written = same }) p
of_box size (Some r) data_of bytes rows f same p =
    text_holds r data_of rows (record { canonical = f.canonical; words = f.words; told = f.told; written = same }) p

words_are : (rows : List PointRow) → words_of rows ≡ box_words (box_of rows) ++ cond (is_short rows) [] (data_words rows)
unfolding words_of
words_are rows = refl

words_say : (bytes : List ℕ) (rows : List PointRow) → IsForm bytes rows → (ws : List ℤ) → words_in bytes ≡ ws → (p : Point) → word_pixels ws p ≡ inverted (points_of rows) p
words_say bytes rows f [] e p = absurd (too_few bytes (few_bytes bytes e) rows f)
words_say bytes rows f (size ∷ ws) e p =
    ap (λ rest. word_pixels (size ∷ rest) p) (sym (form_words bytes size ws rows e f).2 ∙ words_are rows)
    ∙ of_box size (box_of rows) (cond (is_short rows) [] (data_words rows)) bytes rows f (words_are rows) p

said : (bytes : List ℕ) (s : Pixels) (r : IsRegionBytes bytes s) (p : Point) → holds (pixels_of bytes) p ≡ inverted (points_of r.rows) p
unfolding pixels_of
said bytes s r p =
    test_holds (λ h v. word_pixels (words_in bytes) (record { h = h; v = v })) p
    ∙ ap (λ b. in_plane p && b) (words_say bytes r.rows (region_form bytes s r) (words_in bytes) refl p)
    ∙ in_plane_of r.rows r.canonical r.in_range p

-- the bytes of a set of pixels say that set
pub region_is : (bytes : List ℕ) (s : Pixels) → IsRegionBytes bytes s → s ≡ pixels_of bytes
region_is bytes s r = same_holds s (pixels_of bytes) (λ p. r.pixels p ∙ sym (said bytes s r p))
