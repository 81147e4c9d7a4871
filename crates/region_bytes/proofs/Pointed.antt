-- The inversion points of both forms.
use Rattle.std.proofs.Common.{◌≡◌, ℕ, zero, suc, ◌<◌, Bool, true, false, ◌&&◌, List, [], ◌∷◌, ◌++◌, length, get_or, map, ℤ, pos, ◌≤ℤ◌, refl, sym, ap, ◌∙◌, subst, arith, All}
use Rattle.std.specs.Prelude.{int_le}
use Rattle.std.proofs.lemmas.Int.{ints}
use Rattle.std.proofs.lemmas.List.Elements.{All-tail, All-nil, All-cons, All-append}
use Rattle.std.proofs.lemmas.List.Kept.{AllPairs-cons}
use Rattle.tb_geom.specs.declared.point.Point.{Point}
use Rattle.tb_geom.specs.declared.rect.Rect.{Rect}
use Rattle.tb_geom.specs.Rects.{rect_holds, empty_rect, is_empty_rect}
use Rattle.tb_geom.specs.Pixels.{Pixels, holds}
use Rattle.region_bytes.specs.Edges.{differ}
use Rattle.region_bytes.specs.Points.{PointRow, top_of, corners, IsDown, inverted, row_points, points_of, IsPointRow, ArePointRows}
use Rattle.region_bytes.specs.Words.{words_in}
use Rattle.region_bytes.specs.Scan.{points_in}
use Rattle.region_bytes.specs.Forms.{IsRectOf, IsRowsOf}
use Rattle.region_bytes.proofs.Edges.{rising_tail, rising_head}
use Rattle.region_bytes.proofs.PointLemmas.{points_in-data}
use Rattle.region_bytes.proofs.Short.{rect_rows, rect_pixels}
use Rattle.region_bytes.proofs.Judged.{not_empty}
use Rattle.region_bytes.proofs.Said.{none_there}
use Rattle.region_bytes.proofs.Formed.{told_in_range}

-- ---- a rectangle

corners_of : (r : Rect) → corners r ≡ points_of (rect_rows r)
unfolding points_of rect_rows
corners_of r = refl

four_times : (b : Bool) → differ b (differ b (differ b (differ b false))) ≡ false
four_times true = refl
four_times false = refl

same_corners : (p : Point) → inverted (corners empty_rect) p ≡ false
unfolding inverted
same_corners p = four_times (int_le (pos 0) p.h && int_le (pos 0) p.v)

corner_pixels : (r : Rect) → (is_empty_rect r ≡ true → r ≡ empty_rect) → (p : Point) → inverted (corners r) p ≡ rect_holds r p
corner_pixels r none p = by (is_empty_rect r) refl
  where
    by : (empty : Bool) → is_empty_rect r ≡ empty → inverted (corners r) p ≡ rect_holds r p
    by true e = ap (λ q. inverted (corners q) p) (none e) ∙ same_corners p ∙ sym (ap (λ q. rect_holds q p) (none e) ∙ none_there p)
    by false e = let s = not_empty r e in ap (λ ps. inverted ps p) (corners_of r) ∙ rect_pixels r s.0 s.1 p

pub rect_points : (s : Pixels) (r : Rect) → IsRectOf s r → (p : Point) → inverted (corners r) p ≡ holds s p
rect_points s r i p = corner_pixels r i.none p ∙ sym (i.pixels p)

four_down : (a b c d : Point) → a.v ≤ℤ b.v → b.v ≤ℤ c.v → c.v ≤ℤ d.v → IsDown (a ∷ b ∷ c ∷ d ∷ [])
four_down a b c d l m n =
    AllPairs-cons (λ (x y : Point). x.v ≤ℤ y.v) a (b ∷ c ∷ d ∷ []) (All-cons (above a) b (c ∷ d ∷ []) l (All-cons (above a) c (d ∷ []) (omega (arith, ints)) (All-cons (above a) d [] (omega (arith, ints)) (All-nil (above a)))))
    (AllPairs-cons (λ (x y : Point). x.v ≤ℤ y.v) b (c ∷ d ∷ []) (All-cons (above b) c (d ∷ []) m (All-cons (above b) d [] (omega (arith, ints)) (All-nil (above b))))
    (AllPairs-cons (λ (x y : Point). x.v ≤ℤ y.v) c (d ∷ []) (All-cons (above c) d [] n (All-nil (above c)))
    (AllPairs-cons (λ (x y : Point). x.v ≤ℤ y.v) d [] (All-nil (above d)) (λ i j e k f. absurd (omega arith)))))
  where
    above : Point → Point → Type 0
    above x y = x.v ≤ℤ y.v

pub rect_down : (s : Pixels) (r : Rect) → IsRectOf s r → IsDown (corners r)
rect_down s r i = four_down (record { h = r.left; v = r.top }) (record { h = r.right; v = r.top }) (record { h = r.left; v = r.bottom }) (record { h = r.right; v = r.bottom }) (omega (arith, ints)) (high (is_empty_rect r) refl) (omega (arith, ints))
  where
    high : (empty : Bool) → is_empty_rect r ≡ empty → r.top ≤ℤ r.bottom
    high true e = subst (λ (q : Rect). q.top ≤ℤ q.bottom) (sym (i.none e)) (omega (arith, ints))
    high false e = let l = (not_empty r e).1 in omega (arith, ints)

-- ---- data

data_points : (s : Pixels) (bytes : List ℕ) (r : IsRowsOf s bytes) → points_in false (pos 0) (words_in bytes) ≡ points_of r.rows
data_points s bytes r = ap (points_in false (pos 0)) (sym r.written) ∙ points_in-data (pos 0) r.rows (told_in_range r.rows r.in_range)

pub rows_points : (s : Pixels) (bytes : List ℕ) → IsRowsOf s bytes → (p : Point) → inverted (points_in false (pos 0) (words_in bytes)) p ≡ holds s p
rows_points s bytes r p = ap (λ ps. inverted ps p) (data_points s bytes r) ∙ sym (r.pixels p)

all_row : (v w : ℤ) (xs : List ℤ) → w ≤ℤ v → All (λ (q : Point). w ≤ℤ q.v) (row_points (v, xs))
all_row v w [] l = All-nil (λ (q : Point). w ≤ℤ q.v)
all_row v w (x ∷ xs) l = All-cons (λ (q : Point). w ≤ℤ q.v) (record { h = x; v = v }) (row_points (v, xs)) l (all_row v w xs l)

all_below : (rows : List PointRow) (w : ℤ) → ((k : ℕ) → k < length (map top_of rows) → w ≤ℤ get_or (map top_of rows) k (pos 0)) → All (λ (q : Point). w ≤ℤ q.v) (points_of rows)
unfolding points_of
all_below [] w f = All-nil (λ (q : Point). w ≤ℤ q.v)
all_below (row ∷ rows) w f =
    All-append (λ (q : Point). w ≤ℤ q.v) (row_points row) (points_of rows) (all_row row.0 w row.1 (f zero (omega arith)))
    (all_below rows w (λ k l. f (suc k) (omega arith)))

row_down : (v : ℤ) (xs : List ℤ) (rest : List Point) → All (λ (q : Point). v ≤ℤ q.v) rest → IsDown rest → IsDown (row_points (v, xs) ++ rest)
row_down v [] rest a d = d
row_down v (x ∷ xs) rest a d =
    AllPairs-cons (λ (a b : Point). a.v ≤ℤ b.v) (record { h = x; v = v }) (row_points (v, xs) ++ rest)
    (All-append (λ (q : Point). v ≤ℤ q.v) (row_points (v, xs)) rest (all_row v v xs (omega (arith, ints))) a) (row_down v xs rest a d)

points_down : (rows : List PointRow) → ArePointRows rows → IsDown (points_of rows)
unfolding points_of
points_down [] r = λ i j e k f. absurd (omega arith)
points_down (row ∷ rows) r =
    row_down row.0 row.1 (points_of rows)
    (all_below rows row.0 (λ k l. let f = rising_head row.0 (map top_of rows) r.rising k l in omega (arith, ints)))
    (points_down rows (record { rising = rising_tail row.0 (map top_of rows) r.rising; each = All-tail IsPointRow row rows r.each }))

pub rows_down : (s : Pixels) (bytes : List ℕ) → IsRowsOf s bytes → IsDown (points_in false (pos 0) (words_in bytes))
rows_down s bytes r = subst IsDown (sym (data_points s bytes r)) (points_down r.rows r.canonical.are_rows)

-- ---- a pixel

-- one more point
pub inside_more : (p q : Point) (rest after : List Point) (inside total : Bool) → rest ≡ p ∷ after → differ inside (inverted rest q) ≡ total
    → differ (differ (int_le p.h q.h && int_le p.v q.v) inside) (inverted after q) ≡ total
unfolding inverted
inside_more p q rest after inside total e told =
    over (int_le p.h q.h && int_le p.v q.v) inside (inverted after q) ∙ ap (λ ps. differ inside (inverted ps q)) (sym e) ∙ told
  where
    over : (a b c : Bool) → differ (differ a b) c ≡ differ b (differ a c)
    over true true true = refl
    over true true false = refl
    over true false c = refl
    over false b c = refl

pub inside_all : (q : Point) (rest : List Point) (inside total : Bool) → rest ≡ [] → differ inside (inverted rest q) ≡ total → inside ≡ total
unfolding inverted
inside_all q rest inside total e told = sym (none inside) ∙ ap (λ ps. differ inside (inverted ps q)) (sym e) ∙ told
  where
    none : (b : Bool) → differ b false ≡ b
    none true = refl
    none false = refl
