-- Rows moved by a distance: their pixels, and whether these stay in range.
use Rattle.std.proofs.Common.{◌≡◌, ◌⊎◌, ◌&&◌, Bool, true, false, ℕ, ◌<◌, List, [], ◌∷◌, length, get_or, map, ℤ, pos, negsuc, ◌+ℤ◌, ◌-ℤ◌, ◌≤ℤ◌, ◌<ℤ◌, SFits, w32, refl, sym, ap, ◌∙◌, subst, inl, inr, arith}
use Rattle.std.specs.Prelude.{int_le}
use Rattle.std.specs.List.{All}
use Rattle.std.proofs.lemmas.Int.{ints, by_lt_z}
use Rattle.std.proofs.lemmas.Bool.{and_parts, false≢true, true≢false}
use Rattle.std.proofs.lemmas.List.{get_or-map, length-map}
use Rattle.std.proofs.lemmas.List.Elements.{All-head, All-tail, All-nil, All-cons}
use Rattle.tb_geom.specs.declared.point.Point.{Point}
use Rattle.tb_geom.specs.declared.rect.Rect.{Rect}
use Rattle.tb_geom.specs.Points.{minus}
use Rattle.tb_geom.specs.Rects.{between, is_coordinate, is_in_range, moved_rect}
use Rattle.tb_geom.specs.Pixels.{Pixels, holds, pixels_where}
use Rattle.region_bytes.specs.Points.{IsPointRow, IsCanonical, IsInRange, in_rows, top_of}
use Rattle.region_bytes.proofs.Rows.{inverted-points_of}
use Rattle.region_bytes.proofs.Written.{closed_rows}
use Rattle.region_rows.specs.Edges.{differ, inside, is_odd, IsRising, IsCoordinate}
use Rattle.region_rows.specs.Rows.{EdgeRow, AreRows}
use Rattle.region_rows.specs.Hull.{row_in, IsFromTo, IsRowWithin, IsColumnOf, IsRowOf, IsRegion}
use Rattle.region_rows.specs.Moves.{is_pixel_in_range, moved_row, moved_rows, StaysInRange, LeavesRange}
use Rattle.region_rows.proofs.Plane.{has_view, has_viewed}
use Rattle.region_rows.proofs.Hulls.{pixel_in, near_column, near_row}

-- ---- the pixels of moved rows

inside-moved : (xs : List ℤ) (d h : ℤ) → inside (map (λ x. x +ℤ d) xs) h ≡ inside xs (h -ℤ d)
unfolding inside
inside-moved [] d h = refl
inside-moved (x ∷ xs) d h = λ i. differ (one x i) (inside-moved xs d h i)
  where
    one : (x : ℤ) → int_le (x +ℤ d) h ≡ int_le x (h -ℤ d)
    one x = grind (arith, ints)

-- moved rows have the moved pixels
pub in_rows-moved : (rows : List EdgeRow) (d : Point) (h v : ℤ) → in_rows (moved_rows rows d) h v ≡ in_rows rows (h -ℤ d.h) (v -ℤ d.v)
unfolding in_rows
in_rows-moved [] d h v = refl
in_rows-moved (row ∷ rows) d h v = λ i. differ (one row.0 i && inside-moved row.1 d.h h i) (in_rows-moved rows d h v i)
  where
    one : (x : ℤ) → int_le (x +ℤ d.v) v ≡ int_le x (v -ℤ d.v)
    one x = grind (arith, ints)

-- ---- they are the rows of a region

IsRising-moved : (xs : List ℤ) (d : ℤ) → IsRising xs → IsRising (map (λ x. x +ℤ d) xs)
IsRising-moved xs d r =
    record {
      rises = λ i j m n.
          let e : length (map (λ x. x +ℤ d) xs) ≡ length xs = length-map xs (λ x. x +ℤ d) in
          let up = r.rises i j m (omega arith) in
          let first = get_or-map (λ x. x +ℤ d) xs i (pos 0) (pos 0) (omega arith) in
          let second = get_or-map (λ x. x +ℤ d) xs j (pos 0) (pos 0) (omega arith) in
          omega (arith, ints);
    }

tops : (rows : List EdgeRow) (d : Point) → map top_of (moved_rows rows d) ≡ map (λ x. x +ℤ d.v) (map top_of rows)
tops [] d = refl
tops (row ∷ rows) d = ap (λ l. (row.0 +ℤ d.v) ∷ l) (tops rows d)

IsPointRow-moved : (row : EdgeRow) (d : Point) → IsPointRow row → IsPointRow (moved_row row d)
IsPointRow-moved row d good =
    let e : length (map (λ x. x +ℤ d.h) row.1) ≡ length row.1 = length-map row.1 (λ x. x +ℤ d.h) in
    let some = good.some in
    record { rising = IsRising-moved row.1 d.h good.rising; even = ap is_odd e ∙ good.even; some = omega arith }

each_moved : (rows : List EdgeRow) (d : Point) → All IsPointRow rows → All IsPointRow (moved_rows rows d)
each_moved [] d all = All-nil IsPointRow
each_moved (row ∷ rows) d all = All-cons IsPointRow (moved_row row d) (moved_rows rows d) (IsPointRow-moved row d (All-head IsPointRow row rows all)) (each_moved rows d (All-tail IsPointRow row rows all))

-- rows up to v lie up to v before they are moved
back_above : (rows : List EdgeRow) (d : Point) (v : ℤ) → All (λ (row : EdgeRow). row.0 ≤ℤ v) (moved_rows rows d) → All (λ (row : EdgeRow). row.0 ≤ℤ (v -ℤ d.v)) rows
back_above [] d v all = All-nil (λ (row : EdgeRow). row.0 ≤ℤ (v -ℤ d.v))
back_above (row ∷ rows) d v all =
    let first : (row.0 +ℤ d.v) ≤ℤ v = All-head (λ (r : EdgeRow). r.0 ≤ℤ v) (moved_row row d) (moved_rows rows d) all in
    All-cons (λ (r : EdgeRow). r.0 ≤ℤ (v -ℤ d.v)) row rows (omega (arith, ints)) (back_above rows d v (All-tail (λ (r : EdgeRow). r.0 ≤ℤ v) (moved_row row d) (moved_rows rows d) all))

canonical_moved : (rows : List EdgeRow) (d : Point) → IsCanonical rows → IsCanonical (moved_rows rows d)
canonical_moved rows d c = record {
  are_rows = record { rising = subst IsRising (sym (tops rows d)) (IsRising-moved (map top_of rows) d.v c.are_rows.rising); each = each_moved rows d c.are_rows.each };
  closed = λ p all.
      inverted-points_of (moved_rows rows d) p ∙ in_rows-moved rows d p.h p.v ∙ closed_rows rows c (p.h -ℤ d.h) (p.v -ℤ d.v) (back_above rows d p.v all);
}

-- ---- they stay in range

-- the sides of a moved rectangle that stays in range
pub record SidesStay (r : Rect) (d : Point) : Type 0 where
  pub left : IsCoordinate (r.left +ℤ d.h)
  pub top : IsCoordinate (r.top +ℤ d.v)
  pub right : IsCoordinate (r.right +ℤ d.h)
  pub bottom : IsCoordinate (r.bottom +ℤ d.v)

IsCoordinate-from : (z : ℤ) → is_coordinate z ≡ true → IsCoordinate z
IsCoordinate-from z e = (grind (arith, ints), grind (arith, ints))

pub sides_stay : (r : Rect) (d : Point) → is_in_range (moved_rect r d.h d.v) ≡ true → SidesStay r d
sides_stay r d e =
    let p = and_parts (is_coordinate (r.left +ℤ d.h)) (is_coordinate (r.top +ℤ d.v) && (is_coordinate (r.right +ℤ d.h) && is_coordinate (r.bottom +ℤ d.v))) e in
    let q = and_parts (is_coordinate (r.top +ℤ d.v)) (is_coordinate (r.right +ℤ d.h) && is_coordinate (r.bottom +ℤ d.v)) p.1 in
    let s = and_parts (is_coordinate (r.right +ℤ d.h)) (is_coordinate (r.bottom +ℤ d.v)) q.1 in
    record { left = IsCoordinate-from (r.left +ℤ d.h) p.0; top = IsCoordinate-from (r.top +ℤ d.v) q.0; right = IsCoordinate-from (r.right +ℤ d.h) s.0; bottom = IsCoordinate-from (r.bottom +ℤ d.v) s.1 }

columns_stay : (xs : List ℤ) (low high d : ℤ) → All (IsFromTo low high) xs → IsCoordinate (low +ℤ d) → IsCoordinate (high +ℤ d) → All IsCoordinate (map (λ x. x +ℤ d) xs)
columns_stay [] low high d all l m = All-nil IsCoordinate
columns_stay (x ∷ xs) low high d all l m =
    let first : IsFromTo low high x = All-head (IsFromTo low high) x xs all in
    All-cons IsCoordinate (x +ℤ d) (map (λ x. x +ℤ d) xs) (omega (arith, ints, l.0, first.0), omega (arith, ints, m.1, first.1)) (columns_stay xs low high d (All-tail (IsFromTo low high) x xs all) l m)

-- so do the rows of its box
pub rows_stay : (rows : List EdgeRow) (r : Rect) (d : Point) → All (IsRowWithin r) rows → SidesStay r d → All IsInRange (moved_rows rows d)
rows_stay [] r d all s = All-nil IsInRange
rows_stay (row ∷ rows) r d all s =
    let first : IsRowWithin r row = All-head (IsRowWithin r) row rows all in
    let low = first.0.0 in
    let high = first.0.1 in
    let t = s.top.0 in
    let b = s.bottom.1 in
    All-cons IsInRange (moved_row row d) (moved_rows rows d) ((omega (arith, ints), omega (arith, ints)), columns_stay row.1 r.left r.right d.h first.1 s.left s.right) (rows_stay rows r d (All-tail (IsRowWithin r) row rows all) s)

-- ---- their box

row_in-moved : (rows : List EdgeRow) (d : Point) (k : ℕ) → k < length rows → row_in (moved_rows rows d) k ≡ moved_row (row_in rows k) d
row_in-moved rows d k l = get_or-map (λ (r : EdgeRow). moved_row r d) rows k (pos 0, []) (pos 0, []) l

column_moved : (rows : List EdgeRow) (d : Point) (x : ℤ) → IsColumnOf rows (length rows) x → IsColumnOf (moved_rows rows d) (length (moved_rows rows d)) (x +ℤ d.h)
column_moved rows d x c =
    let long : length (moved_rows rows d) ≡ length rows = length-map rows (λ (r : EdgeRow). moved_row r d) in
    let there = c.there in
    let same = row_in-moved rows d c.row there in
    let wide : length (map (λ z. z +ℤ d.h) (row_in rows c.row).1) ≡ length (row_in rows c.row).1 = length-map (row_in rows c.row).1 (λ z. z +ℤ d.h) in
    let in_row = c.in_row in
    record {
      row = c.row;
      place = c.place;
      there = omega arith;
      in_row = subst (λ (r : EdgeRow). c.place < length r.1) (sym same) (omega arith);
      here = ap (λ (r : EdgeRow). get_or r.1 c.place (pos 0)) same ∙ get_or-map (λ z. z +ℤ d.h) (row_in rows c.row).1 c.place (pos 0) (pos 0) in_row ∙ ap (λ z. z +ℤ d.h) c.here;
    }

place_moved : (rows : List EdgeRow) (d : Point) (v : ℤ) → IsRowOf rows v → IsRowOf (moved_rows rows d) (v +ℤ d.v)
place_moved rows d v c =
    let long : length (moved_rows rows d) ≡ length rows = length-map rows (λ (r : EdgeRow). moved_row r d) in
    let there = c.there in
    record { row = c.row; there = omega arith; here = ap (λ (r : EdgeRow). r.0) (row_in-moved rows d c.row there) ∙ ap (λ z. z +ℤ d.v) c.here }

columns_within : (xs : List ℤ) (low high d : ℤ) → All (IsFromTo low high) xs → All (IsFromTo (low +ℤ d) (high +ℤ d)) (map (λ x. x +ℤ d) xs)
columns_within [] low high d all = All-nil (IsFromTo (low +ℤ d) (high +ℤ d))
columns_within (x ∷ xs) low high d all =
    let first : IsFromTo low high x = All-head (IsFromTo low high) x xs all in
    All-cons (IsFromTo (low +ℤ d) (high +ℤ d)) (x +ℤ d) (map (λ x. x +ℤ d) xs) (omega (arith, ints, first.0), omega (arith, ints, first.1)) (columns_within xs low high d (All-tail (IsFromTo low high) x xs all))

rows_within : (rows : List EdgeRow) (r : Rect) (d : Point) → All (IsRowWithin r) rows → All (IsRowWithin (moved_rect r d.h d.v)) (moved_rows rows d)
rows_within [] r d all = All-nil (IsRowWithin (moved_rect r d.h d.v))
rows_within (row ∷ rows) r d all =
    let first : IsRowWithin r row = All-head (IsRowWithin r) row rows all in
    let low = first.0.0 in
    let high = first.0.1 in
    All-cons (IsRowWithin (moved_rect r d.h d.v)) (moved_row row d) (moved_rows rows d) ((omega (arith, ints), omega (arith, ints)), columns_within row.1 r.left r.right d.h first.1) (rows_within rows r d (All-tail (IsRowWithin r) row rows all))

-- the moved rows and box are those of a region, where there is a row
pub region_moved : (rows : List EdgeRow) (r : Rect) (d : Point) → IsRegion rows r → 0 < length rows → is_in_range (moved_rect r d.h d.v) ≡ true → IsRegion (moved_rows rows d) (moved_rect r d.h d.v)
region_moved rows r d g some e =
    let s = sides_stay r d e in
    let long : length (moved_rows rows d) ≡ length rows = length-map rows (λ (row : EdgeRow). moved_row row d) in
    record {
      are_rows = record { canonical = canonical_moved rows d g.are_rows.canonical; in_range = rows_stay rows r d g.hull.within s };
      hull = record {
        none = λ z. absurd (omega arith);
        within = rows_within rows r d g.hull.within;
        left = λ _. column_moved rows d r.left (g.hull.left some);
        right = λ _. column_moved rows d r.right (g.hull.right some);
        top = λ _. place_moved rows d r.top (g.hull.top some);
        bottom = λ _. place_moved rows d r.bottom (g.hull.bottom some);
      };
    }

-- ---- the sets that the rows stand for

-- the moved rows stand for the moved pixels
pub holds-moved_rows : (rows : List EdgeRow) (d : Point) (s : Pixels) → AreRows rows → pixels_where (in_rows rows) ≡ s → AreRows (moved_rows rows d) → (p : Point) → holds (pixels_where (in_rows (moved_rows rows d))) p ≡ holds s (minus p d)
holds-moved_rows rows d s r e moved p =
    has_view (moved_rows rows d) moved p.h p.v ∙ in_rows-moved rows d p.h p.v ∙ sym (has_viewed rows s e r (p.h -ℤ d.h) (p.v -ℤ d.v))

pixel_from : (h v : ℤ) → (negsuc 16383 ≤ℤ h) × (h <ℤ pos 16383) → (negsuc 16383 ≤ℤ v) × (v <ℤ pos 16383) → is_pixel_in_range (record { h = h; v = v }) ≡ true
pixel_from h v a b = λ i. one h a.0 a.1 i && one v b.0 b.1 i
  where
    one : (x : ℤ) → negsuc 16383 ≤ℤ x → x <ℤ pos 16383 → between (negsuc 16383) x (pos 16383) ≡ true
    one x l m = grind (arith, ints)

-- where the box stays in range, so do the pixels
pub stays_in_range : (rows : List EdgeRow) (r : Rect) (d : Point) (s : Pixels) → IsRegion rows r → pixels_where (in_rows rows) ≡ s → is_in_range (moved_rect r d.h d.v) ≡ true → StaysInRange s d
stays_in_range rows r d s g e stays p here =
    let in_box = pixel_in rows r g p.h p.v (sym (has_viewed rows s e g.are_rows p.h p.v) ∙ here) in
    let sides = sides_stay r d stays in
    let l = in_box.0.0 in
    let m = in_box.0.1 in
    let t = in_box.1.0 in
    let b = in_box.1.1 in
    let sl = sides.left.0 in
    let sr = sides.right.1 in
    let st = sides.top.0 in
    let sb = sides.bottom.1 in
    pixel_from (p.h +ℤ d.h) (p.v +ℤ d.v) (omega (arith, ints), omega (arith, ints)) (omega (arith, ints), omega (arith, ints))

-- a region of no rows stays anywhere
pub none_leaves : (s : Pixels) (d : Point) → ((p : Point) → holds s p ≡ false) → StaysInRange s d
none_leaves s d none p here = absurd (false≢true (sym (none p) ∙ here))

-- and is the same there
pub none_moved : (s : Pixels) (d : Point) → ((p : Point) → holds s p ≡ false) → (p : Point) → holds s p ≡ holds s (minus p d)
none_moved s d none p = none p ∙ sym (none (minus p d))

-- a test of two parts that fails fails in one
first_fails : (a b : Bool) → (a && b) ≡ false → (a ≡ false) ⊎ (b ≡ false)
first_fails true b e = inr e
first_fails false b e = inl refl

out_of : (z : ℤ) → is_coordinate z ≡ false → (z <ℤ negsuc 16383) ⊎ (pos 16383 <ℤ z)
out_of z e = by_lt_z z (negsuc 16383) (λ l. inl l) (λ l. by_lt_z (pos 16383) z (λ m. inr m) (λ m. absurd (true≢false (sym (within z l m) ∙ e))))
  where
    within : (z : ℤ) → negsuc 16383 ≤ℤ z → z ≤ℤ pos 16383 → is_coordinate z ≡ true
    within z l m = grind (arith, ints)

and-false-left : (b : Bool) → (false && b) ≡ false
and-false-left b = refl

and-false-right : (a : Bool) → (a && false) ≡ false
and-false-right true = refl
and-false-right false = refl

not_between : (x : ℤ) → (x <ℤ negsuc 16383) ⊎ (pos 16383 ≤ℤ x) → between (negsuc 16383) x (pos 16383) ≡ false
not_between x (inl l) = low x l
  where
    low : (x : ℤ) → x <ℤ negsuc 16383 → between (negsuc 16383) x (pos 16383) ≡ false
    low x l = grind (arith, ints)
not_between x (inr l) = high x l
  where
    high : (x : ℤ) → pos 16383 ≤ℤ x → between (negsuc 16383) x (pos 16383) ≡ false
    high x l = grind (arith, ints)

module _ (rows : List EdgeRow) (r : Rect) (d : Point) (s : Pixels) (g : IsRegion rows r) (e : pixels_where (in_rows rows) ≡ s) (some : 0 < length rows) where
  by_column : (h v : ℤ) → in_rows rows h v ≡ true → ((h +ℤ d.h) <ℤ negsuc 16383) ⊎ (pos 16383 ≤ℤ (h +ℤ d.h)) → LeavesRange s d
  by_column h v here out =
      (record { h = h; v = v }, has_viewed rows s e g.are_rows h v ∙ here, (λ i. not_between (h +ℤ d.h) out i && between (negsuc 16383) (v +ℤ d.v) (pos 16383)))

  by_row : (h v : ℤ) → in_rows rows h v ≡ true → ((v +ℤ d.v) <ℤ negsuc 16383) ⊎ (pos 16383 ≤ℤ (v +ℤ d.v)) → LeavesRange s d
  by_row h v here out =
      (record { h = h; v = v }, has_viewed rows s e g.are_rows h v ∙ here, (λ i. between (negsuc 16383) (h +ℤ d.h) (pos 16383) && not_between (v +ℤ d.v) out i) ∙ and-false-right _)

  left_leaves : is_coordinate (r.left +ℤ d.h) ≡ false → LeavesRange s d
  left_leaves f =
      let n = near_column rows r.left g.are_rows (g.hull.left some) in
      let b = (pixel_in rows r g n.0 n.1 n.2).0.0 in
      let low = n.3 in
      let high = n.4 in
      by_column n.0 n.1 n.2 (elim (out_of (r.left +ℤ d.h) f) [ inl l ↦ inl (omega (arith, ints)) | inr l ↦ inr (omega (arith, ints)) ])

  right_leaves : is_coordinate (r.right +ℤ d.h) ≡ false → LeavesRange s d
  right_leaves f =
      let n = near_column rows r.right g.are_rows (g.hull.right some) in
      let b = (pixel_in rows r g n.0 n.1 n.2).0.1 in
      let low = n.3 in
      let high = n.4 in
      by_column n.0 n.1 n.2 (elim (out_of (r.right +ℤ d.h) f) [ inl l ↦ inl (omega (arith, ints)) | inr l ↦ inr (omega (arith, ints)) ])

  top_leaves : is_coordinate (r.top +ℤ d.v) ≡ false → LeavesRange s d
  top_leaves f =
      let n = near_row rows r.top g.are_rows (g.hull.top some) in
      let b = (pixel_in rows r g n.0 n.1 n.2).1.0 in
      let low = n.3 in
      let high = n.4 in
      by_row n.0 n.1 n.2 (elim (out_of (r.top +ℤ d.v) f) [ inl l ↦ inl (omega (arith, ints)) | inr l ↦ inr (omega (arith, ints)) ])

  bottom_leaves : is_coordinate (r.bottom +ℤ d.v) ≡ false → LeavesRange s d
  bottom_leaves f =
      let n = near_row rows r.bottom g.are_rows (g.hull.bottom some) in
      let b = (pixel_in rows r g n.0 n.1 n.2).1.1 in
      let low = n.3 in
      let high = n.4 in
      by_row n.0 n.1 n.2 (elim (out_of (r.bottom +ℤ d.v) f) [ inl l ↦ inl (omega (arith, ints)) | inr l ↦ inr (omega (arith, ints)) ])

  -- where the box leaves the range, some pixel does
  pub leaves_range : is_in_range (moved_rect r d.h d.v) ≡ false → LeavesRange s d
  leaves_range f = elim (first_fails (is_coordinate (r.left +ℤ d.h)) _ f) [
    | inl l ↦ left_leaves l
    | inr a ↦ elim (first_fails (is_coordinate (r.top +ℤ d.v)) _ a) [
      | inl t ↦ top_leaves t
      | inr b ↦ elim (first_fails (is_coordinate (r.right +ℤ d.h)) _ b) [ inl m ↦ right_leaves m | inr n ↦ bottom_leaves n ]
    ]
  ]

-- ---- moved in place

-- the place of a row is a number of 32 bits
pub top_fits : (v : ℤ) → IsCoordinate v → SFits w32 v
top_fits v top = fits v top.0 top.1
  where
    fits : (v : ℤ) → negsuc 16383 ≤ℤ v → v ≤ℤ pos 16383 → SFits w32 v
    fits v l m = search (arith, ints)

-- the edges of a row that stays in range do
pub edges_stay : (row : EdgeRow) (d : Point) → IsInRange (moved_row row d) → All (λ x. IsCoordinate (x +ℤ d.h)) row.1
edges_stay row d good k e l =
    let same : length (map (λ x. x +ℤ d.h) row.1) ≡ length row.1 = length-map row.1 (λ x. x +ℤ d.h) in
    subst IsCoordinate (get_or-map (λ x. x +ℤ d.h) row.1 k e e l) (good.1 k e (omega arith))

-- of rows that stay in range each does
pub moved_row_at : (rows : List EdgeRow) (d : Point) (i : ℕ) (e : EdgeRow) → i < length rows → All IsInRange (moved_rows rows d) → IsInRange (moved_row (get_or rows i e) d)
moved_row_at rows d i e l all =
    let same : length (moved_rows rows d) ≡ length rows = length-map rows (λ r. moved_row r d) in
    subst IsInRange (get_or-map (λ r. moved_row r d) rows i e e l) (all i e (omega arith))
