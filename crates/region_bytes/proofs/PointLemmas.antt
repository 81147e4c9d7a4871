-- The points of words, one by one.
use Rattle.std.proofs.Common.{◌≡◌, ℕ, ◌<◌, ◌≤◌, Bool, true, false, cond, List, [], ◌∷◌, length, get_or, take, drop, ◌-◌, ◌++◌, map, All, ℤ, pos, refl, sym, ap, ◌∙◌}
use Rattle.std.specs.Ordering.{int_eq}
use Rattle.std.specs.Int.{from_be_bytes, cast_signed, w16}
use Rattle.std.proofs.lemmas.Bool.Decides.{Decides-int_eq}
use Rattle.std.proofs.lemmas.List.{take_rest}
use Rattle.std.proofs.lemmas.List.Elements.{All-head, All-tail}
use Rattle.region_bytes.specs.Words.{words_in}
use Rattle.region_bytes.specs.Points.{PointRow, points_of, row_points}
use Rattle.region_bytes.specs.Scan.{points_in}
use Rattle.region_bytes.specs.Bytes.{IsWithoutEnd}
use Rattle.region_bytes.specs.Words.{data_words}
use Rattle.region_bytes.proofs.Found.{regroup}
use Rattle.region_bytes.proofs.Tests.{int_eq-same, int_eq-apart}
use Rattle.region_bytes.proofs.Flags.{no_words_left}
use Rattle.region_bytes.proofs.Scanned.{words_in-two}

-- the word of two bytes, and those after it
pub split : (bytes : List ℕ) (w : ℤ) → w ≡ cast_signed w16 (from_be_bytes w16 (get_or bytes 0 0 ∷ get_or bytes 1 0 ∷ [])) → 2 ≤ length bytes → w ∷ words_in (take (length bytes - 2) (drop 2 bytes)) ≡ words_in bytes
split bytes w e l = (λ i. e i ∷ words_in (take_rest bytes 2 i)) ∙ sym (words_in-two bytes l)

pub no_points : (within : Bool) (v : ℤ) (bytes : List ℕ) → length bytes < 2 → points_in within v (words_in bytes) ≡ []
unfolding points_in
no_points true v bytes l = ap (points_in true v) (no_words_left bytes l)
no_points false v bytes l = ap (points_in false v) (no_words_left bytes l)

-- the place of a row
pub row_begins : (within : Bool) (v w : ℤ) (ws : List ℤ) → within ≡ false → points_in true w ws ≡ points_in within v (w ∷ ws)
unfolding points_in
row_begins true v w ws e = absurd (cc)
row_begins false v w ws e = refl

-- the end of a row
pub row_ends : (within : Bool) (v w : ℤ) (ws : List ℤ) → within ≡ true → w ≡ pos 32767 → points_in false v ws ≡ points_in within v (w ∷ ws)
unfolding points_in
row_ends false v w ws e f = absurd (cc)
row_ends true v w ws e f = sym (ap (λ b. cond b (points_in false v ws) ((record { h = w; v = v }) ∷ points_in true v ws)) ((Decides-int_eq w (pos 32767)).1 f))

-- a column of a row
pub point_comes : (within : Bool) (v w : ℤ) (ws : List ℤ) → within ≡ true → (w ≡ pos 32767 → ⊥) → points_in within v (w ∷ ws) ≡ (record { h = w; v = v }) ∷ points_in within v ws
unfolding points_in
point_comes false v w ws e f = absurd (cc)
point_comes true v w ws e f = by_test (int_eq w (pos 32767)) refl
  where
    by_test : (b : Bool) → int_eq w (pos 32767) ≡ b → cond (int_eq w (pos 32767)) (points_in false v ws) ((record { h = w; v = v }) ∷ points_in true v ws) ≡ (record { h = w; v = v }) ∷ points_in true v ws
    by_test true t = absurd (f ((Decides-int_eq w (pos 32767)).0 t))
    by_test false t = ap (λ b. cond b (points_in false v ws) ((record { h = w; v = v }) ∷ points_in true v ws)) t

-- ---- the points of rows

within_row : (v : ℤ) (xs rest : List ℤ) → All (λ x. x ≡ pos 32767 → ⊥) xs → points_in true v (xs ++ (pos 32767 ∷ rest)) ≡ map (λ x. record { h = x; v = v }) xs ++ points_in false v rest
unfolding points_in
within_row v [] rest n = (λ i. cond (int_eq-same (pos 32767) i) (points_in false v rest) ((record { h = pos 32767; v = v }) ∷ points_in true v rest))
within_row v (x ∷ xs) rest n =
    (λ i. cond (int_eq-apart x (pos 32767) (All-head (λ x. x ≡ pos 32767 → ⊥) x xs n) i) (points_in false v (xs ++ (pos 32767 ∷ rest))) ((record { h = x; v = v }) ∷ points_in true v (xs ++ (pos 32767 ∷ rest))))
    ∙ ap (λ l. (record { h = x; v = v }) ∷ l) (within_row v xs rest (All-tail (λ x. x ≡ pos 32767 → ⊥) x xs n))

-- the points of data are those of its rows
pub points_in-data : (v : ℤ) (rows : List PointRow) → All IsWithoutEnd rows → points_in false v (data_words rows) ≡ points_of rows
unfolding points_in points_of
points_in-data v [] t = refl
points_in-data v (row ∷ rows) t =
    ap (points_in false v) (regroup row rows)
    ∙ within_row row.0 row.1 (data_words rows) (All-head IsWithoutEnd row rows t).1
    ∙ ap (λ l. row_points row ++ l) (points_in-data row.0 rows (All-tail IsWithoutEnd row rows t))
