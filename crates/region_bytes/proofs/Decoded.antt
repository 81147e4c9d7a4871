-- The words of rows tell the rows.
use Rattle.std.proofs.Common.{◌≡◌, ◌≢◌, ℕ, ◌+◌, ◌*◌, List, [], ◌∷◌, ◌++◌, length, ℤ, pos, refl, sym, ap, ◌∙◌, subst, arith, inl, inr, All}
use Rattle.std.proofs.lemmas.Int.{ints}
use Rattle.std.proofs.lemmas.List.Elements.{All-head, All-tail, All-cons, All-weaker}
use Rattle.std.specs.Prelude.{Option, Some, None}
use Rattle.tb_geom.specs.declared.rect.Rect.{Rect}
use Rattle.tb_geom.specs.declared.refusal.Refusal.{Refusal}
use Rattle.tb_geom.specs.Pixels.{Pixels}
use Rattle.tb_geom.proofs.PixelsLemmas.{same_holds}
use Rattle.region_bytes.specs.Edges.{IsCoordinate}
use Rattle.region_bytes.specs.Points.{PointRow, IsInRange, inverted, points_of}
use Rattle.region_bytes.specs.Words.{data_words, words_in, words_of, bytes_of, box_of, box_words}
use Rattle.region_bytes.specs.Bytes.{IsWithoutEnd, IsWord, IsForm, IsRegionBytes, IsTooLong, IsBad}
use Rattle.region_bytes.specs.Text.{IsText}
use Rattle.region_bytes.proofs.Written.{data_words-cons, bytes_of-words, length-bytes_of}
use Rattle.region_bytes.proofs.Rows.{same_canonical}
use Rattle.region_bytes.proofs.Words.{words_in-bytes}
use Rattle.region_bytes.proofs.Parted.{words_fit_rows}
use Rattle.region_bytes.proofs.Said.{text_holds}
use Rattle.region_bytes.proofs.Formed.{region_form}

head_same : (x y : ℤ) (xs ys : List ℤ) → x ∷ xs ≡ y ∷ ys → (x ≡ y) × (xs ≡ ys)
head_same x y xs ys e = (cc, cc)

-- columns up to the first end are told by the words
pub same_columns : (xs ys p q : List ℤ) → All (λ x. x ≢ pos 32767) xs → All (λ x. x ≢ pos 32767) ys → xs ++ (pos 32767 ∷ p) ≡ ys ++ (pos 32767 ∷ q) → (xs ≡ ys) × (p ≡ q)
same_columns [] [] p q a b e = (refl, (head_same _ _ _ _ e).1)
same_columns [] (y ∷ ys) p q a b e = absurd (All-head (λ z. z ≢ pos 32767) y ys b (sym (head_same _ _ _ _ e).0))
same_columns (x ∷ xs) [] p q a b e = absurd (All-head (λ z. z ≢ pos 32767) x xs a (head_same _ _ _ _ e).0)
same_columns (x ∷ xs) (y ∷ ys) p q a b e =
    let t = head_same _ _ _ _ e in
    let r = same_columns xs ys p q (All-tail (λ z. z ≢ pos 32767) x xs a) (All-tail (λ z. z ≢ pos 32767) y ys b) t.1 in
    ((λ i. t.0 i ∷ r.0 i), r.1)

-- rows of the same words are the same
pub same_data : (a b : List PointRow) → All IsWithoutEnd a → All IsWithoutEnd b → data_words a ≡ data_words b → a ≡ b
same_data [] [] g h e = refl
same_data [] (s ∷ b) g h e = absurd ((All-head IsWithoutEnd s b h).0 (sym (head_same _ _ _ _ (e ∙ data_words-cons s b)).0))
same_data (r ∷ a) [] g h e = absurd ((All-head IsWithoutEnd r a g).0 (head_same _ _ _ _ (sym (data_words-cons r a) ∙ e)).0)
same_data (r ∷ a) (s ∷ b) g h e =
    let t = head_same _ _ _ _ (sym (data_words-cons r a) ∙ e ∙ data_words-cons s b) in
    let c = same_columns r.1 s.1 _ _ (All-head IsWithoutEnd r a g).1 (All-head IsWithoutEnd s b h).1 t.1 in
    let rest = same_data a b (All-tail IsWithoutEnd r a g) (All-tail IsWithoutEnd s b h) c.1 in
    λ i. (t.0 i, c.0 i) ∷ rest i

-- 32767 is no coordinate
pub not_end : (z : ℤ) → IsCoordinate z → z ≢ pos 32767
not_end z c e = omega (arith, ints, c.1)

pub columns_told : (xs : List ℤ) → All IsCoordinate xs → All (λ x. x ≢ pos 32767) xs
columns_told xs all = All-weaker IsCoordinate (λ x. x ≢ pos 32767) not_end xs all

-- so rows in range are told
pub told_in_range : (rows : List PointRow) → All IsInRange rows → All IsWithoutEnd rows
told_in_range rows all = All-weaker IsInRange IsWithoutEnd (λ row in_range. (not_end row.0 in_range.0, columns_told row.1 in_range.1)) rows all

-- ---- bytes

-- bytes of the form have these words
form_says : (bytes : List ℕ) (rows : List PointRow) → IsForm bytes rows → words_in bytes ≡ pos (2 + 2 * length (words_of rows)) ∷ words_of rows
form_says bytes rows f =
    let long = ap length f.written ∙ length-bytes_of rows in
    let short = f.fits in
    let size : IsWord (pos (2 + 2 * length (words_of rows))) = (omega (arith, ints), omega (arith, ints)) in
    ap words_in (f.written ∙ bytes_of-words rows) ∙ words_in-bytes (pos (2 + 2 * length (words_of rows)) ∷ words_of rows) (All-cons IsWord (pos (2 + 2 * length (words_of rows))) (words_of rows) size (words_fit_rows rows f.words))

-- the four words of a box, and the words after it
record BoxFirst (words : List ℤ) : Type 0 where
  box : Rect
  after : List ℤ
  same : words ≡ box.top ∷ box.left ∷ box.bottom ∷ box.right ∷ after

box_before : (bounds : Option Rect) (after : List ℤ) → BoxFirst (box_words bounds ++ after)
box_before None after = record { box = record { left = pos 0; top = pos 0; right = pos 0; bottom = pos 0 }; after = after; same = refl }
box_before (Some r) after = record { box = r; after = after; same = refl }

box_first : (rows : List PointRow) → BoxFirst (words_of rows)
unfolding words_of
box_first rows = box_before (box_of rows) _

text_of : (bytes : List ℕ) (rows : List PointRow) (box : Rect) (after : List ℤ) → IsForm bytes rows → words_of rows ≡ box.top ∷ box.left ∷ box.bottom ∷ box.right ∷ after → IsText box after rows
text_of bytes rows box after f e = record { canonical = f.canonical; words = f.words; told = f.told; written = e }

-- bytes have the form of one list of rows
pub same_form : (bytes : List ℕ) (a b : List PointRow) → IsForm bytes a → IsForm bytes b → a ≡ b
same_form bytes a b f g =
    let first = box_first a in
    let words = (head_same _ _ _ _ (sym (form_says bytes a f) ∙ form_says bytes b g)).1 in
    let in_a = text_of bytes a first.box first.after f first.same in
    let in_b = text_of bytes b first.box first.after g (sym words ∙ first.same) in
    same_canonical a b f.canonical g.canonical (λ p. sym (text_holds first.box first.after a in_a p) ∙ text_holds first.box first.after b in_b p)

-- bytes are those of one set of pixels
pub same_set : (bytes : List ℕ) (s t : Pixels) → IsRegionBytes bytes s → IsRegionBytes bytes t → s ≡ t
same_set bytes s t a b =
    let rows = same_form bytes a.rows b.rows (region_form bytes s a) (region_form bytes t b) in
    same_holds s t (λ p. a.pixels p ∙ ap (λ l. inverted (points_of l) p) rows ∙ sym (b.pixels p))

-- a set has one text of bytes
pub same_bytes : (a b : List ℕ) (s : Pixels) → IsRegionBytes a s → IsRegionBytes b s → a ≡ b
same_bytes a b s f g = f.written ∙ ap bytes_of (same_canonical f.rows g.rows f.canonical g.canonical (λ p. sym (f.pixels p) ∙ g.pixels p)) ∙ sym g.written

-- the bytes of a set are not refused
pub not_bad : (bytes : List ℕ) (s : Pixels) (e : Refusal) → IsRegionBytes bytes s → IsBad bytes e → ⊥
not_bad bytes s e r (inl (is, none)) = none r.rows (region_form bytes s r)
not_bad bytes s e r (inr (is, (rows, form, out))) = out (subst (All IsInRange) (same_form bytes r.rows rows (region_form bytes s r) form) r.in_range)

-- nor is a set of which there are bytes too long
pub not_too_long_of : (bytes : List ℕ) (s : Pixels) → IsRegionBytes bytes s → IsTooLong s → ⊥
not_too_long_of bytes s r t =
    let rows = same_canonical r.rows t.rows r.canonical t.canonical (λ p. sym (r.pixels p) ∙ t.pixels p) in
    let e = ap length (r.written ∙ ap bytes_of rows) in
    let fits = r.fits in
    let long = t.long in
    omega arith
