-- The words of a region's bytes: the size, the box and the data.
use Rattle.std.proofs.Common.{◌≡◌, ℕ, zero, suc, ◌+◌, ◌*◌, ◌/◌, ◌%◌, ◌<◌, ◌≤◌, Bool, true, false, cond, List, [], ◌∷◌, ◌++◌, length, get_or, ℤ, pos, negsuc, refl, sym, ap, ◌∙◌, arith, All, length-append}
use Rattle.std.specs.Prelude.{Option, Some, None}
use Rattle.std.specs.List.{flat_map}
use Rattle.std.proofs.lemmas.Int.{ints}
use Rattle.std.proofs.lemmas.List.Elements.{All-head, All-tail, All-nil, All-cons, All-append}
use Rattle.tb_geom.specs.declared.rect.Rect.{Rect}
use Rattle.region_bytes.specs.Points.{PointRow, points_of}
use Rattle.region_bytes.specs.Words.{word_bytes, words_in, row_words, data_words, box_of, box_words, is_short, words_of, bytes_of}
use Rattle.region_bytes.specs.Bytes.{IsWord, IsOfWords, IsForm}
use Rattle.region_bytes.proofs.Words.{words_in-bytes, bytes-words_in}
use Rattle.region_bytes.proofs.Ranges.{square, IsBoxIn, box_in, points_in_range}

-- ---- how many

length_word : (z : ℤ) → length (word_bytes z) ≡ 2
length_word z = refl

length_words : (ws : List ℤ) → length (flat_map word_bytes ws) ≡ 2 * length ws
length_words [] = refl
length_words (w ∷ ws) = let e = length_words ws in omega arith

pub length_of_words : (bytes : List ℕ) (n : ℕ) → length bytes ≡ 2 * n → length (words_in bytes) ≡ n
unfolding words_in
length_of_words [] n e = omega arith
length_of_words (a ∷ []) n e = absurd (omega arith)
length_of_words (a ∷ b ∷ bytes) zero e = absurd (omega arith)
length_of_words (a ∷ b ∷ bytes) (suc n) e = let f = length_of_words bytes n (omega arith) in omega arith

-- ---- words of rows

four_fit : (a b c d : ℤ) → IsWord a → IsWord b → IsWord c → IsWord d → All IsWord (a ∷ b ∷ c ∷ d ∷ [])
four_fit a b c d e f g h =
    All-cons IsWord a (b ∷ c ∷ d ∷ []) e (All-cons IsWord b (c ∷ d ∷ []) f (All-cons IsWord c (d ∷ []) g (All-cons IsWord d [] h (All-nil IsWord))))

zero_fits : IsWord (pos 0)
zero_fits = (search (arith, ints), search (arith, ints))

box_words_fit : (b : Option Rect) → IsBoxIn (square (negsuc 32767) (pos 32767)) b → All IsWord (box_words b)
box_words_fit None i = four_fit (pos 0) (pos 0) (pos 0) (pos 0) zero_fits zero_fits zero_fits zero_fits
box_words_fit (Some r) i = four_fit r.top r.left r.bottom r.right i.top_in i.left_in i.bottom_in i.right_in

end_fits : IsWord (pos 32767)
end_fits = (search (arith, ints), search (arith, ints))

rows_fit : (rows : List PointRow) → All IsOfWords rows → All IsWord (flat_map row_words rows)
rows_fit [] f = All-nil IsWord
rows_fit (row ∷ rows) f =
    let one = All-head IsOfWords row rows f in
    All-append IsWord (row_words row) (flat_map row_words rows)
    (All-cons IsWord row.0 (row.1 ++ pos 32767 ∷ []) one.0 (All-append IsWord row.1 (pos 32767 ∷ []) one.1 (All-cons IsWord (pos 32767) [] end_fits (All-nil IsWord))))
    (rows_fit rows (All-tail IsOfWords row rows f))

data_fits : (rows : List PointRow) → All IsOfWords rows → All IsWord (data_words rows)
data_fits rows f = All-append IsWord (flat_map row_words rows) (pos 32767 ∷ []) (rows_fit rows f) (All-cons IsWord (pos 32767) [] end_fits (All-nil IsWord))

pub words_fit_rows : (rows : List PointRow) → All IsOfWords rows → All IsWord (words_of rows)
unfolding words_of box_of
words_fit_rows rows f = All-append IsWord (box_words (box_of rows)) _
    (box_words_fit (box_of rows) (box_in (square (negsuc 32767) (pos 32767)) None (points_of rows) tt (points_in_range (square (negsuc 32767) (pos 32767)) rows f)))
    (after (is_short rows))
  where
    after : (short : Bool) → All IsWord (cond short [] (data_words rows))
    after true = All-nil IsWord
    after false = data_fits rows f

-- ---- bytes and words

size_fits : (n : ℕ) → n ≤ 32766 → IsWord (pos n)
size_fits n l = (omega (arith, ints), omega (arith, ints))

heads : (a b : ℤ) (xs ys : List ℤ) → a ∷ xs ≡ b ∷ ys → (a ≡ b) × (xs ≡ ys)
heads a b xs ys e = (cc, cc)

-- bytes of the form begin with their size, and their words are those of the rows
pub form_words : (bytes : List ℕ) (size : ℤ) (ws : List ℤ) (rows : List PointRow) → words_in bytes ≡ size ∷ ws → IsForm bytes rows
    → (length bytes ≡ 2 * (1 + length ws)) × (size ≡ pos (length bytes)) × (words_of rows ≡ ws)
unfolding bytes_of
form_words bytes size ws rows e f =
    let total : length bytes ≡ 2 * length (pos (2 + 2 * length (words_of rows)) ∷ words_of rows) = ap length f.written ∙ length_words (pos (2 + 2 * length (words_of rows)) ∷ words_of rows) in
    let long : length bytes ≡ 2 * (1 + length (words_of rows)) = omega arith in
    let fits = f.fits in
    let all : All IsWord (pos (2 + 2 * length (words_of rows)) ∷ words_of rows) =
    All-cons IsWord (pos (2 + 2 * length (words_of rows))) (words_of rows) (size_fits _ (omega arith)) (words_fit_rows rows f.words) in
    let same = heads size (pos (2 + 2 * length (words_of rows))) ws (words_of rows) (sym e ∙ ap words_in f.written ∙ words_in-bytes _ all) in
    let count : length ws ≡ length (words_of rows) = ap length same.1 in
    (omega arith, same.0 ∙ ap pos (omega arith), sym same.1)

-- and bytes of which this is so have the form
pub words_form : (bytes : List ℕ) (size : ℤ) (ws : List ℤ) (rows : List PointRow) → words_in bytes ≡ size ∷ ws → ((i : ℕ) → get_or bytes i 0 < 256)
    → length bytes ≡ 2 * (1 + length ws) → size ≡ pos (length bytes) → words_of rows ≡ ws → bytes ≡ bytes_of rows
unfolding bytes_of
words_form bytes size ws rows e low long told same =
    sym (bytes-words_in bytes (1 + length ws) long low) ∙ ap (flat_map word_bytes) (e ∙ (λ i. (told ∙ ap pos (long ∙ number)) i ∷ sym same i))
  where
    number : 2 * (1 + length ws) ≡ 2 + 2 * length (words_of rows)
    number = let n : length (words_of rows) ≡ length ws = ap length same in omega arith

four_words : (b : Option Rect) → length (box_words b) ≡ 4
four_words None = refl
four_words (Some r) = refl

-- bytes of the form are at least ten
pub too_few : (bytes : List ℕ) → length bytes < 10 → (rows : List PointRow) → IsForm bytes rows → ⊥
unfolding bytes_of words_of
too_few bytes l rows f =
    let total : length bytes ≡ 2 * length (pos (2 + 2 * length (words_of rows)) ∷ words_of rows) = ap length f.written ∙ length_words (pos (2 + 2 * length (words_of rows)) ∷ words_of rows) in
    let box = four_words (box_of rows) in
    let all : length (words_of rows) ≡ length (box_words (box_of rows)) + length (cond (is_short rows) [] (data_words rows)) = length-append (box_words (box_of rows)) (cond (is_short rows) [] (data_words rows)) in
    omega arith

-- and of the size that they say
pub wrong_size : (bytes : List ℕ) (size : ℤ) (ws : List ℤ) → words_in bytes ≡ size ∷ ws → ((length bytes ≤ 32766) × (length bytes % 2 ≡ 0) × (size ≡ pos (length bytes)) → ⊥) → (rows : List PointRow) → IsForm bytes rows → ⊥
wrong_size bytes size ws e apart rows f =
    let told = form_words bytes size ws rows e f in
    let long = told.0 in
    apart (f.fits, omega arith, told.1)

pub even_words : (bytes : List ℕ) → length bytes % 2 ≡ 0 → length bytes ≡ 2 * length (words_in bytes)
even_words bytes e =
    let half : length bytes ≡ 2 * (length bytes / 2) = omega arith in
    let n = length_of_words bytes (length bytes / 2) half in
    omega arith
