-- The box of the inversion points is the smallest that holds the pixels.
use Rattle.std.proofs.Common.{◌≡◌, ℕ, zero, suc, ◌<◌, Bool, true, false, ◌&&◌, ◌||◌, List, [], ◌∷◌, length, get_or, map, ℤ, pos, ◌+ℤ◌, ◌-ℤ◌, ◌<ℤ◌, ◌≤ℤ◌, refl, sym, ap, ◌∙◌, subst, arith, All, ◌⊎◌, inl, inr}
use Rattle.std.specs.Prelude.{Option, Some, None, int_le, int_lt}
use Rattle.std.proofs.lemmas.Int.{ints}
use Rattle.std.proofs.lemmas.Bool.{and_parts, false≢true}
use Rattle.std.proofs.lemmas.List.{get_or-map, length-map}
use Rattle.std.proofs.lemmas.List.Elements.{All-head, All-get_or, All-from_get_or}
use Rattle.tb_geom.specs.declared.point.Point.{Point}
use Rattle.tb_geom.specs.declared.rect.Rect.{Rect}
use Rattle.tb_geom.specs.Rects.{IsBoxOf, rect_holds, between, empty_rect, is_empty_rect}
use Rattle.tb_geom.specs.Pixels.{Pixels, holds}
use Rattle.region_bytes.specs.Edges.{differ, inside, IsRising}
use Rattle.region_bytes.specs.Points.{PointRow, top_of, inverted, points_of, in_rows, IsPointRow, ArePointRows, IsCanonical}
use Rattle.region_bytes.specs.Words.{words_in, box_of, box_words}
use Rattle.region_bytes.specs.Bytes.{IsRegionBytes}
use Rattle.region_bytes.specs.Scan.{odd_at}
use Rattle.region_bytes.specs.Text.{IsParted}
use Rattle.region_bytes.proofs.Tests.{int_eq-same, int_eq-apart}
use Rattle.region_bytes.proofs.Edges.{differ_swap, int_le-true, rising_head, rising_tail}
use Rattle.region_bytes.proofs.Rows.{canonical_tail, first_row, above_first, inverted-points_of}
use Rattle.region_bytes.proofs.Finite.{odd_turns}
use Rattle.region_bytes.proofs.Ranges.{IsIn, IsPointIn, IsRowIn, IsRectIn, IsBoxIn, box_in, points_in_range, points_in_box, rows_in_range}
use Rattle.region_bytes.proofs.Long.{of_sides}
use Rattle.region_bytes.proofs.Said.{form_text, text_sides, sides_kept, pixel_within, none_there}
use Rattle.region_bytes.proofs.Formed.{region_form}

-- ---- at each point the pixels turn

odd_none : (x : ℤ) (xs : List ℤ) → ((k : ℕ) → k < length xs → x <ℤ get_or xs k (pos 0)) → odd_at x xs ≡ false
unfolding odd_at
odd_none x [] a = refl
odd_none x (c ∷ xs) a =
    let l = a zero (omega arith) in
    (λ i. differ (int_eq-apart c x (λ e. omega (arith, ints)) i) (odd_none x xs (λ k m. a (suc k) (omega arith)) i))

odd_one : (xs : List ℤ) (k : ℕ) → IsRising xs → k < length xs → odd_at (get_or xs k (pos 0)) xs ≡ true
unfolding odd_at
odd_one [] k r l = absurd (omega arith)
odd_one (x ∷ xs) zero r l = (λ i. differ (int_eq-same x i) (odd_none x xs (rising_head x xs r) i))
odd_one (x ∷ xs) (suc k) r l =
    let right = rising_head x xs r k (omega arith) in
    (λ i. differ (int_eq-apart x (get_or xs k (pos 0)) (λ e. omega (arith, ints)) i) (odd_one xs k (rising_tail x xs r) (omega arith) i))

pub column_turns : (xs : List ℤ) (k : ℕ) → IsRising xs → k < length xs → differ (inside xs (get_or xs k (pos 0))) (inside xs (get_or xs k (pos 0) -ℤ pos 1)) ≡ true
column_turns xs k r l = sym (odd_turns (get_or xs k (pos 0)) xs) ∙ odd_one xs k r l

abbrev pub no_row : PointRow
no_row = (pos 0, [])

differ-none : (b : Bool) → b ≡ differ b false
differ-none true = refl
differ-none false = refl

pub row_turns : (rows : List PointRow) (k : ℕ) (h : ℤ) → ArePointRows rows → k < length rows
    → in_rows rows h (get_or rows k no_row).0 ≡ differ (inside (get_or rows k no_row).1 h) (in_rows rows h ((get_or rows k no_row).0 -ℤ pos 1))
unfolding in_rows
row_turns [] k h r l = absurd (omega arith)
row_turns (row ∷ rows) zero h r l =
    first_row row rows h r ∙ differ-none (inside row.1 h) ∙ ap (differ (inside row.1 h)) (sym (above_first row rows h (row.0 -ℤ pos 1) r (omega (arith, ints))))
row_turns (row ∷ rows) (suc k) h r l =
    let at : PointRow = get_or rows k no_row in
    let in_rest : k < length rows = omega arith in
    let size : length (map top_of rows) ≡ length rows = length-map rows top_of in
    let same : get_or (map top_of rows) k (pos 0) ≡ at.0 = get_or-map top_of rows k no_row (pos 0) in_rest in
    let below : row.0 <ℤ get_or (map top_of rows) k (pos 0) = rising_head row.0 (map top_of rows) r.rising k (omega arith) in
    (λ i. differ (int_le-true row.0 at.0 (omega (arith, ints)) i && inside row.1 h) (row_turns rows k h (canonical_tail row rows r) in_rest i))
    ∙ differ_swap (inside row.1 h) (inside at.1 h) (in_rows rows h (at.0 -ℤ pos 1))
    ∙ sym (λ i. differ (inside at.1 h) (differ (int_le-true row.0 (at.0 -ℤ pos 1) (omega (arith, ints)) i && inside row.1 h) (in_rows rows h (at.0 -ℤ pos 1))))

-- so one of the four pixels about it is in
pub one_of : (a b c d s t : Bool) → a ≡ differ s c → b ≡ differ t d → differ s t ≡ true → (a ≡ true) ⊎ ((b ≡ true) ⊎ ((c ≡ true) ⊎ (d ≡ true)))
one_of true b c d s t e f g = inl refl
one_of false true c d s t e f g = inr (inl refl)
one_of false false true d s t e f g = inr (inr (inl refl))
one_of false false false true s t e f g = inr (inr (inr refl))
one_of false false false false true t e f g = absurd (false≢true e)
one_of false false false false false true e f g = absurd (false≢true f)
one_of false false false false false false e f g = absurd (false≢true g)

-- ---- a rectangle that holds the pixels holds the points

from_le : (x y : ℤ) → int_le x y ≡ true → x ≤ℤ y
from_le x y e = grind (arith, ints)

from_lt : (x y : ℤ) → int_lt x y ≡ true → x <ℤ y
from_lt x y e = grind (arith, ints)

sides_from : (q : Rect) (p : Point) → rect_holds q p ≡ true → ((q.left ≤ℤ p.h) × (p.h <ℤ q.right)) × ((q.top ≤ℤ p.v) × (p.v <ℤ q.bottom))
sides_from q p e =
    let a = and_parts (between q.left p.h q.right) (between q.top p.v q.bottom) e in
    let b = and_parts (int_le q.left p.h) (int_lt p.h q.right) a.0 in
    let c = and_parts (int_le q.top p.v) (int_lt p.v q.bottom) a.1 in
    ((from_le q.left p.h b.0, from_lt p.h q.right b.1), (from_le q.top p.v c.0, from_lt p.v q.bottom c.1))

near : (q : Rect) (p : Point) (x v : ℤ) → p.h ≤ℤ x → x ≤ℤ (p.h +ℤ pos 1) → p.v ≤ℤ v → v ≤ℤ (p.v +ℤ pos 1) → rect_holds q p ≡ true → IsPointIn q (record { h = x; v = v })
near q p x v a b c d e =
    let s = sides_from q p e in
    let l = s.0.0 in let r = s.0.1 in let t = s.1.0 in let u = s.1.1 in
    ((omega (arith, ints), omega (arith, ints)), (omega (arith, ints), omega (arith, ints)))

point_in : (q : Rect) (rows : List PointRow) → ArePointRows rows → ((p : Point) → inverted (points_of rows) p ≡ true → rect_holds q p ≡ true) → (k j : ℕ) → k < length rows → j < length (get_or rows k no_row).1
    → IsPointIn q (record { h = get_or (get_or rows k no_row).1 j (pos 0); v = (get_or rows k no_row).0 })
point_in q rows r f k j l m =
    let row : PointRow = get_or rows k no_row in
    let good : IsPointRow row = All-get_or IsPointRow rows k no_row l r.each in
    let x : ℤ = get_or row.1 j (pos 0) in
    let held : (h v : ℤ) → in_rows rows h v ≡ true → rect_holds q (record { h = h; v = v }) ≡ true = λ h v e. f (record { h = h; v = v }) (inverted-points_of rows (record { h = h; v = v }) ∙ e) in
    elim (one_of (in_rows rows x row.0) (in_rows rows (x -ℤ pos 1) row.0) (in_rows rows x (row.0 -ℤ pos 1)) (in_rows rows (x -ℤ pos 1) (row.0 -ℤ pos 1)) (inside row.1 x) (inside row.1 (x -ℤ pos 1))
    (row_turns rows k x r l) (row_turns rows k (x -ℤ pos 1) r l) (column_turns row.1 j good.rising m)) [
      | inl e ↦ near q (record { h = x; v = row.0 }) x row.0 (omega (arith, ints)) (omega (arith, ints)) (omega (arith, ints)) (omega (arith, ints)) (held x row.0 e)
      | inr (inl e) ↦ near q (record { h = x -ℤ pos 1; v = row.0 }) x row.0 (omega (arith, ints)) (omega (arith, ints)) (omega (arith, ints)) (omega (arith, ints)) (held (x -ℤ pos 1) row.0 e)
      | inr (inr (inl e)) ↦ near q (record { h = x; v = row.0 -ℤ pos 1 }) x row.0 (omega (arith, ints)) (omega (arith, ints)) (omega (arith, ints)) (omega (arith, ints)) (held x (row.0 -ℤ pos 1) e)
      | inr (inr (inr e)) ↦ near q (record { h = x -ℤ pos 1; v = row.0 -ℤ pos 1 }) x row.0 (omega (arith, ints)) (omega (arith, ints)) (omega (arith, ints)) (omega (arith, ints)) (held (x -ℤ pos 1) (row.0 -ℤ pos 1) e)
    ]

pub rows_in : (q : Rect) (rows : List PointRow) → ArePointRows rows → ((p : Point) → inverted (points_of rows) p ≡ true → rect_holds q p ≡ true) → All (IsRowIn q) rows
rows_in q rows r f =
    All-from_get_or (IsRowIn q) rows no_row (λ k l.
    let good : IsPointRow (get_or rows k no_row) = All-get_or IsPointRow rows k no_row l r.each in
    ((point_in q rows r f k 0 l good.some).1, All-from_get_or (IsIn q.left q.right) (get_or rows k no_row).1 (pos 0) (λ j m. (point_in q rows r f k j l m).0)))

-- ---- the box

rect_true : (w : Rect) (p : Point) → w.left ≤ℤ p.h → p.h <ℤ w.right → w.top ≤ℤ p.v → p.v <ℤ w.bottom → rect_holds w p ≡ true
rect_true w p a b c d = λ i. (int_le-true w.left p.h a i && int_lt-true p.h w.right b i) && (int_le-true w.top p.v c i && int_lt-true p.v w.bottom d i)
  where
    int_lt-true : (x y : ℤ) → x <ℤ y → int_lt x y ≡ true
    int_lt-true x y l = grind (arith, ints)

wider : (q : Rect) (b : Option Rect) (box : Rect) → box_words b ≡ box.top ∷ box.left ∷ box.bottom ∷ box.right ∷ [] → IsBoxIn q b → (p : Point) → rect_holds box p ≡ true → rect_holds q p ≡ true
wider q None box e i p h =
    absurd (false≢true (sym (none_there p) ∙ ap (λ r. rect_holds r p) (of_sides (pos 0) (pos 0) (pos 0) (pos 0) box.top box.left box.bottom box.right e) ∙ h))
wider q (Some s) box e i p h =
    let j = subst (IsRectIn q) (of_sides s.top s.left s.bottom s.right box.top box.left box.bottom box.right e) i in
    let a = sides_from box p h in
    let l = a.0.0 in let r = a.0.1 in let t = a.1.0 in let u = a.1.1 in
    let jl = j.left_in.0 in let jr = j.right_in.1 in let jt = j.top_in.0 in let ju = j.bottom_in.1 in
    rect_true q p (omega (arith, ints)) (omega (arith, ints)) (omega (arith, ints)) (omega (arith, ints))

box_exact : (box : Rect) (rows : List PointRow) → IsCanonical rows → box_words (box_of rows) ≡ box.top ∷ box.left ∷ box.bottom ∷ box.right ∷ [] → IsBoxOf box (inverted (points_of rows))
unfolding box_of
box_exact box rows c e = record {
  holds = λ p f.
      let kept = sides_kept box (box_of rows) box e (omega (arith, ints), omega (arith, ints), omega (arith, ints), omega (arith, ints)) in
      let s = pixel_within box rows c (rows_in_range box rows c.are_rows.each (points_in_box box None (points_of rows) kept).1) p f in
      rect_true box p s.0.0 s.0.1 s.1.0 s.1.1;
  smallest = λ q f. wider q (box_of rows) box e (box_in q None (points_of rows) tt (points_in_range q rows (rows_in q rows c.are_rows f)));
}

-- an empty box is that of no row
empty_has : (box : Rect) (p : Point) → is_empty_rect box ≡ true → rect_holds box p ≡ true → ⊥
empty_has box p e h =
    let s = sides_from box p h in
    let l = s.0.0 in let r = s.0.1 in let t = s.1.0 in let u = s.1.1 in
    by (int_le box.right box.left) refl e
  where
    by : (b : Bool) → int_le box.right box.left ≡ b → (b || int_le box.bottom box.top) ≡ true → ⊥
    by true f g = let m = from_le box.right box.left f in let s = sides_from box p h in let l = s.0.0 in let r = s.0.1 in omega (arith, ints)
    by false f g = let m = from_le box.bottom box.top g in let s = sides_from box p h in let l = s.1.0 in let r = s.1.1 in omega (arith, ints)

empty_none : (box : Rect) (rows : List PointRow) → IsCanonical rows → box_words (box_of rows) ≡ box.top ∷ box.left ∷ box.bottom ∷ box.right ∷ [] → is_empty_rect box ≡ true → box ≡ empty_rect
unfolding box_of points_of
empty_none box [] c e f = sym (of_sides (pos 0) (pos 0) (pos 0) (pos 0) box.top box.left box.bottom box.right e)
empty_none box (row ∷ rows) c e f =
    let none : (q : Rect) (p : Point) → inverted (points_of (row ∷ rows)) p ≡ true → rect_holds q p ≡ true = λ q p g. absurd (empty_has box p f ((box_exact box (row ∷ rows) c e).holds p g)) in
    let low : Rect = record { left = pos 0; top = pos 0; right = pos 0; bottom = pos 0 } in
    let high : Rect = record { left = pos 1; top = pos 1; right = pos 1; bottom = pos 1 } in
    let a = (All-head (IsRowIn low) row rows (rows_in low (row ∷ rows) c.are_rows (none low))).0.1 in
    let b = (All-head (IsRowIn high) row rows (rows_in high (row ∷ rows) c.are_rows (none high))).0.0 in
    absurd (omega (arith, ints))

-- ---- the box of region bytes

region_sides : (bytes : List ℕ) (s : Pixels) (box : Rect) (after : List ℕ) → IsParted bytes box after → (r : IsRegionBytes bytes s) → box_words (box_of r.rows) ≡ box.top ∷ box.left ∷ box.bottom ∷ box.right ∷ []
region_sides bytes s box after d r = text_sides box (words_in after) r.rows (form_text bytes box after r.rows d (region_form bytes s r))

pub region_box : (bytes : List ℕ) (s : Pixels) (box : Rect) (after : List ℕ) → IsParted bytes box after → IsRegionBytes bytes s → IsBoxOf box (holds s)
region_box bytes s box after d r =
    let b = box_exact box r.rows r.canonical (region_sides bytes s box after d r) in
    record { holds = λ p e. b.holds p (sym (r.pixels p) ∙ e); smallest = λ q f. b.smallest q (λ p e. f p (r.pixels p ∙ e)) }

pub region_none : (bytes : List ℕ) (s : Pixels) (box : Rect) (after : List ℕ) → IsParted bytes box after → IsRegionBytes bytes s → is_empty_rect box ≡ true → box ≡ empty_rect
region_none bytes s box after d r e = empty_none box r.rows r.canonical (region_sides bytes s box after d r) e
