-- What the bytes of a region are made of, and how long they are.
use Rattle.std.proofs.Common.{◌≡◌, ℕ, ◌+◌, ◌*◌, ◌<◌, ◌≤◌, ◌⊎◌, inl, inr, Bool, true, false, cond, List, [], ◌∷◌, ◌++◌, length, ℤ, pos, ◌≤ℤ◌, refl, sym, ap, ◌∙◌, subst, arith, length-append, append_assoc, append-nil, All}
use Rattle.std.specs.Prelude.{Option, Some, None, unwrap_or}
use Rattle.std.specs.List.{flat_map, fold}
use Rattle.std.specs.Int.{int_min, int_max}
use Rattle.std.proofs.lemmas.Int.{ints, clamps}
use Rattle.std.proofs.lemmas.Grind.{flat_map-append}
use Rattle.std.proofs.lemmas.List.Elements.{All-head, All-tail}
use Rattle.std.proofs.lemmas.List.Sums.{fold-append}
use Rattle.tb_geom.specs.declared.point.Point.{Point}
use Rattle.tb_geom.specs.declared.rect.Rect.{Rect}
use Rattle.region_bytes.specs.Edges.{IsCoordinate}
use Rattle.region_bytes.specs.Points.{PointRow, points_of, row_points, in_rows, IsCanonical, IsInRange}
use Rattle.region_bytes.specs.Words.{grown, box_of, box_words, data_words, row_words, is_short, words_of, word_bytes, bytes_of}
use Rattle.region_bytes.specs.Writing.{IsWritten, AreWritten, IsBoxOfCoordinates}
use Rattle.region_bytes.specs.declared.writing.RegionWriter.{RegionWriter}
use Rattle.region_bytes.proofs.Long.{long_data, not_short}
use Rattle.region_bytes.proofs.Rows.{inverted-points_of}

-- ---- lengths

-- the bytes of words are two each
pub length-word_bytes : (ws : List ℤ) → length (flat_map word_bytes ws) ≡ 2 * length ws
length-word_bytes [] = refl
length-word_bytes (w ∷ ws) = let e = length-word_bytes ws in length-append (word_bytes w) (flat_map word_bytes ws) ∙ omega arith

-- the words of a box are four
pub length-box_words : (bounds : Option Rect) → length (box_words bounds) ≡ 4
length-box_words None = refl
length-box_words (Some r) = refl

pub words_of-short : (rows : List PointRow) → is_short rows ≡ true → words_of rows ≡ box_words (box_of rows) ++ []
unfolding words_of
words_of-short rows e = ap (λ b. box_words (box_of rows) ++ cond b [] (data_words rows)) e

pub words_of-long : (rows : List PointRow) → is_short rows ≡ false → words_of rows ≡ box_words (box_of rows) ++ data_words rows
unfolding words_of
words_of-long rows e = ap (λ b. box_words (box_of rows) ++ cond b [] (data_words rows)) e

pub bytes_of-words : (rows : List PointRow) → bytes_of rows ≡ flat_map word_bytes (pos (2 + 2 * length (words_of rows)) ∷ words_of rows)
unfolding bytes_of
bytes_of-words rows = refl

pub length-bytes_of : (rows : List PointRow) → length (bytes_of rows) ≡ 2 + 2 * length (words_of rows)
length-bytes_of rows = let e = length-word_bytes (pos (2 + 2 * length (words_of rows)) ∷ words_of rows) in ap length (bytes_of-words rows) ∙ omega arith

-- the data of one more row before others
pub data_words-cons : (row : PointRow) (rows : List PointRow) → data_words (row ∷ rows) ≡ row.0 ∷ (row.1 ++ (pos 32767 ∷ data_words rows))
data_words-cons row rows = ap (λ l. row.0 ∷ l) (ap (λ l. l ++ pos 32767 ∷ []) (append_assoc row.1 (pos 32767 ∷ []) (flat_map row_words rows)) ∙ append_assoc row.1 (pos 32767 ∷ flat_map row_words rows) (pos 32767 ∷ []))

pub length-data_words : (row : PointRow) (rows : List PointRow) → length (data_words (row ∷ rows)) ≡ 2 + (length row.1 + length (data_words rows))
length-data_words row rows = let e = length-append row.1 (pos 32767 ∷ data_words rows) in ap length (data_words-cons row rows) ∙ omega arith

-- ---- the short form

-- below its rows a canonical list has no pixel
pub closed_rows : (rows : List PointRow) → IsCanonical rows → (h v : ℤ) → All (λ row. row.0 ≤ℤ v) rows → in_rows rows h v ≡ false
closed_rows rows c h v low = sym (inverted-points_of rows (record { h = h; v = v })) ∙ c.closed (record { h = h; v = v }) low

-- data of one word or nine is that of no pixel or of a rectangle
pub short_from_length : (rows : List PointRow) → IsCanonical rows → (length (data_words rows) ≡ 1) ⊎ (length (data_words rows) ≡ 9) → is_short rows ≡ true
short_from_length rows c n = by_form (is_short rows) refl
  where
    by_form : (b : Bool) → is_short rows ≡ b → is_short rows ≡ true
    by_form true e = e
    by_form false e = absurd (let long = long_data rows c e in elim n [ inl one ↦ omega arith | inr nine ↦ omega arith ])

-- ---- the box

min_in : (x y : ℤ) → IsCoordinate x → IsCoordinate y → IsCoordinate (int_min x y)
min_in x y (a, b) (c, d) = (omega (arith, ints, clamps), omega (arith, ints, clamps))

max_in : (x y : ℤ) → IsCoordinate x → IsCoordinate y → IsCoordinate (int_max x y)
max_in x y (a, b) (c, d) = (omega (arith, ints, clamps), omega (arith, ints, clamps))

grown_in : (bounds : Option Rect) (p : Point) → IsBoxOfCoordinates bounds → IsCoordinate p.h → IsCoordinate p.v → IsBoxOfCoordinates (grown bounds p)
grown_in None p b h v = (h, v, h, v)
grown_in (Some r) p b h v = (min_in r.left p.h b.0 h, min_in r.top p.v b.1 v, max_in r.right p.h b.2 h, max_in r.bottom p.v b.3 v)

row_in : (v : ℤ) (xs : List ℤ) (bounds : Option Rect) → IsBoxOfCoordinates bounds → IsCoordinate v → All IsCoordinate xs → IsBoxOfCoordinates (fold grown bounds (row_points (v, xs)))
row_in v [] bounds b c all = b
row_in v (x ∷ xs) bounds b c all = row_in v xs (grown bounds (record { h = x; v = v })) (grown_in bounds _ b (All-head IsCoordinate x xs all) c) c (All-tail IsCoordinate x xs all)

rows_in : (rows : List PointRow) (bounds : Option Rect) → IsBoxOfCoordinates bounds → All IsInRange rows → IsBoxOfCoordinates (fold grown bounds (points_of rows))
unfolding points_of
rows_in [] bounds b all = b
rows_in (row ∷ rows) bounds b all =
    let first = All-head IsInRange row rows all in
    subst IsBoxOfCoordinates (sym (fold-append grown bounds (row_points row) (points_of rows)))
    (rows_in rows (fold grown bounds (row_points row)) (row_in row.0 row.1 bounds b first.0 first.1) (All-tail IsInRange row rows all))

-- the box of rows in range is in range
pub box_in_range : (rows : List PointRow) → All IsInRange rows → IsBoxOfCoordinates (fold grown None (points_of rows))
box_in_range rows all = rows_in rows None tt all

-- ---- the bytes

pub box_of-fold : (rows : List PointRow) → box_of rows ≡ fold grown None (points_of rows)
unfolding box_of
box_of-fold rows = refl

-- data that is too long makes bytes that are
pub too_long : (rows : List PointRow) → IsCanonical rows → 16378 < length (data_words rows) → 32766 < length (bytes_of rows)
too_long rows c l =
    let e = ap length (words_of-long rows (not_short rows c (λ n. omega arith) (λ n. omega arith))) in
    let f = length-append (box_words (box_of rows)) (data_words rows) in
    let g = length-box_words (box_of rows) in
    let n = length-bytes_of rows in
    omega arith

-- and data that is not makes bytes that are not
pub not_too_long : (rows : List PointRow) → IsCanonical rows → length (data_words rows) ≤ 16378 → length (bytes_of rows) ≤ 32766
not_too_long rows c l = by_form (is_short rows) refl
  where
    by_form : (b : Bool) → is_short rows ≡ b → length (bytes_of rows) ≤ 32766
    by_form true s =
        let e = ap length (words_of-short rows s) in
        let none : List ℤ = [] in
        let f = length-append (box_words (box_of rows)) none in
        let g = length-box_words (box_of rows) in
        let n = length-bytes_of rows in
        omega arith
    by_form false s =
        let e = ap length (words_of-long rows s) in
        let f = length-append (box_words (box_of rows)) (data_words rows) in
        let g = length-box_words (box_of rows) in
        let n = length-bytes_of rows in
        omega arith

-- the size, the box and the data are the bytes of the rows
pub bytes_from_parts : (rows : List PointRow) (words : List ℤ) (bounds : Option Rect) (body bytes : List ℕ) → words_of rows ≡ box_words (box_of rows) ++ words → bounds ≡ fold grown None (points_of rows) → body ≡ flat_map word_bytes words → bytes ≡ word_bytes (pos (10 + length body)) ++ (flat_map word_bytes (box_words bounds) ++ body) → bytes ≡ bytes_of rows
bytes_from_parts rows words bounds body bytes e b d f =
    let g : bounds ≡ box_of rows = b ∙ sym (box_of-fold rows) in
    let n : length body ≡ 2 * length words = ap length d ∙ length-word_bytes words in
    let m = length-append (box_words (box_of rows)) words in
    let k = length-box_words (box_of rows) in
    let l : length (words_of rows) ≡ 4 + length words = ap length e ∙ omega arith in
    let size : 10 + length body ≡ 2 + 2 * length (words_of rows) = omega arith in
    let rest : flat_map word_bytes (box_words bounds) ++ body ≡ flat_map word_bytes (words_of rows) =
    (λ i. flat_map word_bytes (box_words (g i)) ++ d i) ∙ sym (flat_map-append word_bytes (box_words (box_of rows)) words) ∙ ap (flat_map word_bytes) (sym e) in
    f ∙ (λ i. word_bytes (pos (size i)) ++ rest i) ∙ sym (bytes_of-words rows)

-- the four words of a box, and their bytes after others
pub box_words-unwrapped : (bounds : Option Rect) (r : Rect) → r ≡ unwrap_or bounds (record { left = pos 0; top = pos 0; right = pos 0; bottom = pos 0 }) → box_words bounds ≡ r.top ∷ r.left ∷ r.bottom ∷ r.right ∷ []
box_words-unwrapped None r e = sym (ap (λ (q : Rect). q.top ∷ q.left ∷ q.bottom ∷ q.right ∷ []) e)
box_words-unwrapped (Some q) r e = sym (ap (λ (q : Rect). q.top ∷ q.left ∷ q.bottom ∷ q.right ∷ []) e)

pub four_pieces : (before a b c d : List ℕ) → (((before ++ a) ++ b) ++ c) ++ d ≡ before ++ (a ++ (b ++ (c ++ (d ++ []))))
four_pieces before a b c d = simp (append_assoc, append-nil)

-- ---- one more row

pub points_of-push : (rows : List PointRow) (row : PointRow) → points_of (rows ++ row ∷ []) ≡ points_of rows ++ row_points row
unfolding points_of
points_of-push [] row = append-nil _
points_of-push (r ∷ rows) row = ap (λ l. row_points r ++ l) (points_of-push rows row) ∙ sym (append_assoc (row_points r) (points_of rows) (row_points row))

row_pieces : (words columns : List ℤ) (v : ℤ) → ((words ++ v ∷ []) ++ columns) ++ pos 32767 ∷ [] ≡ words ++ row_words (v, columns)
row_pieces words columns v = ap (λ l. l ++ pos 32767 ∷ []) (append_assoc words (v ∷ []) columns) ∙ append_assoc words (v ∷ columns) (pos 32767 ∷ [])

-- the place, the columns and the end of a row are that row
pub AreWritten-push : (out : RegionWriter) (rows : List PointRow) (v : ℤ) (columns : List ℤ) → IsWritten out (((flat_map row_words rows ++ v ∷ []) ++ columns) ++ pos 32767 ∷ []) (points_of rows ++ row_points (v, columns)) → AreWritten out (rows ++ (v, columns) ∷ [])
AreWritten-push out rows v columns s =
    let words : ((flat_map row_words rows ++ v ∷ []) ++ columns) ++ pos 32767 ∷ [] ≡ flat_map row_words (rows ++ (v, columns) ∷ []) =
    row_pieces (flat_map row_words rows) columns v
    ∙ ap (λ l. flat_map row_words rows ++ l) (sym (append-nil (row_words (v, columns))))
    ∙ sym (flat_map-append row_words rows ((v, columns) ∷ [])) in
    subst (λ ws. IsWritten out ws (points_of (rows ++ (v, columns) ∷ []))) words (subst (IsWritten out (((flat_map row_words rows ++ v ∷ []) ++ columns) ++ pos 32767 ∷ [])) (sym (points_of-push rows (v, columns))) s)
