-- The exact box of rows of points is that of their pixels.
use Rattle.std.proofs.Common.{◌≡◌, ℕ, ◌+◌, ◌-◌, ◌<◌, ◌≤◌, Bool, true, false, List, [], length, get_or, map, ℤ, pos, negsuc, ◌-ℤ◌, ◌<ℤ◌, ◌≤ℤ◌, refl, sym, ap, ◌∙◌, subst, inl, inr, arith, All}
use Rattle.std.proofs.lemmas.Int.{ints, clamps, by_lt_z}
use Rattle.std.specs.Int.{int_min, int_max}
use Rattle.std.proofs.lemmas.Bool.{cases_lt, true≢false}
use Rattle.tb_geom.specs.declared.point.Point.{Point}
use Rattle.tb_geom.specs.declared.rect.Rect.{Rect}
use Rattle.tb_geom.specs.Points.{PixelSet}
use Rattle.tb_geom.specs.Rects.{IsBoxOf, rect_holds, empty_rect}
use Rattle.tb_geom.proofs.RectLemmas.{holds_in, holds_none, sides_of}
use Rattle.region_bytes.specs.Points.{IsPointRow, in_rows, top_of}
use Rattle.region_bytes.proofs.Rows.{inverted-points_of}
use Rattle.region_bytes.proofs.Ranges.{IsIn, IsRowIn}
use Rattle.region_bytes.proofs.Said.{pixel_within}
use Rattle.region_bytes.proofs.Boxed.{rows_in, row_turns, column_turns, one_of}
use Rattle.std.proofs.lemmas.List.{get_or_default, get_or-map, length-map}
use Rattle.region_rows.specs.Edges.{inside, IsRising, IsCoordinate}
use Rattle.region_rows.specs.Rows.{EdgeRow, AreRows}
use Rattle.region_rows.specs.Hull.{row_in, IsFromTo, IsRowWithin, IsColumnOf, IsRowOf, IsHull, IsRegion}

-- ---- the pixels within

-- a pixel of a region lies in its box
pub pixel_in : (rows : List EdgeRow) (r : Rect) → IsRegion rows r → (h v : ℤ) → in_rows rows h v ≡ true → ((r.left ≤ℤ h) × (h <ℤ r.right)) × ((r.top ≤ℤ v) × (v <ℤ r.bottom))
pixel_in rows r g h v e =
    let p : Point = record { h = h; v = v } in
    pixel_within r rows g.are_rows.canonical g.hull.within p (inverted-points_of rows p ∙ e)

pub held : (rows : List EdgeRow) (r : Rect) → IsRegion rows r → (p : Point) → in_rows rows p.h p.v ≡ true → rect_holds r p ≡ true
held rows r g p e =
    let s = pixel_in rows r g p.h p.v e in
    holds_in r p s.0.0 s.0.1 s.1.0 s.1.1

-- and none lies outside
pub none_outside : (rows : List EdgeRow) (r : Rect) → IsRegion rows r → (p : Point) → rect_holds r p ≡ false → in_rows rows p.h p.v ≡ false
none_outside rows r g p e = by (in_rows rows p.h p.v) refl
  where
    by : (b : Bool) → in_rows rows p.h p.v ≡ b → b ≡ false
    by true f = sym (held rows r g p f) ∙ e
    by false f = refl

column_in : (q : Rect) (rows : List EdgeRow) (x : ℤ) → All (IsRowIn q) rows → IsColumnOf rows (length rows) x → IsIn q.left q.right x
column_in q rows x all c = subst (IsIn q.left q.right) c.here ((all c.row (pos 0, []) c.there).1 c.place (pos 0) c.in_row)

place_in : (q : Rect) (rows : List EdgeRow) (v : ℤ) → All (IsRowIn q) rows → IsRowOf rows v → IsIn q.top q.bottom v
place_in q rows v all c = subst (IsIn q.top q.bottom) c.here (all c.row (pos 0, []) c.there).0

-- the box of a region is exact
pub hull_box : (rows : List EdgeRow) (r : Rect) → IsRegion rows r → IsBoxOf r (λ p. in_rows rows p.h p.v)
hull_box rows r g = record {
  holds = held rows r g;
  smallest = λ q around p here. elim (cases_lt 0 (length rows)) [
    | inl some ↦
        let all = rows_in q rows g.are_rows.canonical.are_rows (λ k e. around k (sym (inverted-points_of rows k) ∙ e)) in
        let left = (column_in q rows r.left all (g.hull.left some)).0 in
        let right = (column_in q rows r.right all (g.hull.right some)).1 in
        let top = (place_in q rows r.top all (g.hull.top some)).0 in
        let bottom = (place_in q rows r.bottom all (g.hull.bottom some)).1 in
        let s = sides_of r p here in
        holds_in q p (omega (arith, ints, s.left)) (omega (arith, ints, s.right)) (omega (arith, ints, s.top)) (omega (arith, ints, s.bottom))
    | inr none ↦ absurd (true≢false (sym here ∙ ap (λ b. rect_holds b p) (g.hull.none (omega arith)) ∙ holds_none empty_rect refl p))
  ];
}

-- ---- a pixel by each point

-- one of the four pixels about a point is in
pub record IsNear (rows : List EdgeRow) (x w : ℤ) : Type 0 where
  pub h : ℤ
  pub v : ℤ
  pub here : in_rows rows h v ≡ true
  pub left : (x -ℤ pos 1) ≤ℤ h
  pub right : h ≤ℤ x
  pub above : (w -ℤ pos 1) ≤ℤ v
  pub below : v ≤ℤ w

near : (rows : List EdgeRow) (k j : ℕ) → AreRows rows → k < length rows → j < length (row_in rows k).1 → IsNear rows (get_or (row_in rows k).1 j (pos 0)) (row_in rows k).0
near rows k j r l m =
    let row : EdgeRow = row_in rows k in
    let rows_ok = r.canonical.are_rows in
    let good : IsPointRow row = rows_ok.each k (pos 0, []) l in
    let x : ℤ = get_or row.1 j (pos 0) in
    elim (one_of (in_rows rows x row.0) (in_rows rows (x -ℤ pos 1) row.0) (in_rows rows x (row.0 -ℤ pos 1)) (in_rows rows (x -ℤ pos 1) (row.0 -ℤ pos 1)) (inside row.1 x) (inside row.1 (x -ℤ pos 1))
    (row_turns rows k x rows_ok l) (row_turns rows k (x -ℤ pos 1) rows_ok l) (column_turns row.1 j good.rising m)) [
      | inl e ↦ record { h = x; v = row.0; here = e; left = omega (arith, ints); right = omega (arith, ints); above = omega (arith, ints); below = omega (arith, ints) }
      | inr (inl e) ↦ record { h = x -ℤ pos 1; v = row.0; here = e; left = omega (arith, ints); right = omega (arith, ints); above = omega (arith, ints); below = omega (arith, ints) }
      | inr (inr (inl e)) ↦ record { h = x; v = row.0 -ℤ pos 1; here = e; left = omega (arith, ints); right = omega (arith, ints); above = omega (arith, ints); below = omega (arith, ints) }
      | inr (inr (inr e)) ↦ record { h = x -ℤ pos 1; v = row.0 -ℤ pos 1; here = e; left = omega (arith, ints); right = omega (arith, ints); above = omega (arith, ints); below = omega (arith, ints) }
    ]

-- a column of points has a pixel beside it
pub near_column : (rows : List EdgeRow) (x : ℤ) → AreRows rows → IsColumnOf rows (length rows) x → (h : ℤ) × (v : ℤ) × (in_rows rows h v ≡ true) × ((x -ℤ pos 1) ≤ℤ h) × (h ≤ℤ x)
near_column rows x r c =
    let n = near rows c.row c.place r c.there c.in_row in
    let same = c.here in
    let left = n.left in
    let right = n.right in
    (n.h, n.v, n.here, omega (arith, ints), omega (arith, ints))

-- and a row of points one beside it
pub near_row : (rows : List EdgeRow) (w : ℤ) → AreRows rows → IsRowOf rows w → (h : ℤ) × (v : ℤ) × (in_rows rows h v ≡ true) × ((w -ℤ pos 1) ≤ℤ v) × (v ≤ℤ w)
near_row rows w r c =
    let good : IsPointRow (row_in rows c.row) = r.canonical.are_rows.each c.row (pos 0, []) c.there in
    let n = near rows c.row 0 r c.there good.some in
    let same = c.here in
    let above = n.above in
    let below = n.below in
    (n.h, n.v, n.here, omega (arith, ints), omega (arith, ints))

-- ---- the box is found row by row

-- of the first n rows the columns lie from `left` to `right`, and both are columns of theirs
pub record ColumnsTo (rows : List EdgeRow) (n : ℕ) (left right : ℤ) : Type 0 where
  pub start : n ≡ 0 → (left ≡ pos 16383) × (right ≡ negsuc 16383)
  pub within : (k : ℕ) → k < n → All (IsFromTo left right) (row_in rows k).1
  pub least : 0 < n → IsColumnOf rows n left
  pub greatest : 0 < n → IsColumnOf rows n right

pub ColumnsTo-none : (rows : List EdgeRow) → ColumnsTo rows 0 (pos 16383) (negsuc 16383)
ColumnsTo-none rows = record { start = λ e. (refl, refl); within = λ k l. absurd (omega arith); least = λ l. absurd (omega arith); greatest = λ l. absurd (omega arith) }

more_of : (rows : List EdgeRow) (n : ℕ) (x : ℤ) → IsColumnOf rows n x → IsColumnOf rows (n + 1) x
more_of rows n x c = record { row = c.row; place = c.place; there = (let l = c.there in omega arith); in_row = c.in_row; here = c.here }

last_in : (xs : List ℤ) → 0 < length xs → length xs - 1 < length xs
last_in xs l = omega arith

-- all edges lie from the first to the last one
pub from_first : (xs : List ℤ) (k : ℕ) (d : ℤ) → IsRising xs → k < length xs → (get_or xs 0 (pos 0) ≤ℤ get_or xs k d) × (get_or xs k d ≤ℤ get_or xs (length xs - 1) (pos 0))
from_first xs k d r l =
    let same : get_or xs k d ≡ get_or xs k (pos 0) = get_or_default xs k d (pos 0) l in (
      elim (cases_lt 0 k) [ inl m ↦ (let up = r.rises 0 k m l in omega (arith, ints)) | inr m ↦ (let e : k ≡ 0 = omega arith in let here = ap (λ q. get_or xs q (pos 0)) e in omega (arith, ints)) ],
      elim (cases_lt k (length xs - 1)) [ inl m ↦ (let up = r.rises k (length xs - 1) m (omega arith) in omega (arith, ints)) | inr m ↦ (let e : k ≡ length xs - 1 = omega arith in let here = ap (λ q. get_or xs q (pos 0)) e in omega (arith, ints)) ],
    )

pub ColumnsTo-more : (rows : List EdgeRow) (n : ℕ) (left right x y : ℤ) → AreRows rows → n < length rows → ColumnsTo rows n left right
    → x ≡ get_or (row_in rows n).1 0 (pos 0) → y ≡ get_or (row_in rows n).1 (length (row_in rows n).1 - 1) (pos 0)
    → ColumnsTo rows (n + 1) (int_min left x) (int_max right y)
ColumnsTo-more rows n left right x y r l s ex ey =
    let row : EdgeRow = row_in rows n in
    let good : IsPointRow row = r.canonical.are_rows.each n (pos 0, []) l in
    let range : All IsCoordinate row.1 = (r.in_range n (pos 0, []) l).1 in
    let some : 0 < length row.1 = good.some in
    let end : length row.1 - 1 < length row.1 = last_in row.1 some in
    let high = (range 0 (pos 0) some).1 in
    let low = (range (length row.1 - 1) (pos 0) end).0 in
    record {
      start = λ e. absurd (omega arith);
      within = λ k m j d j_in. elim (cases_lt k n) [
        | inl before ↦ (let b = s.within k before j d j_in in (omega (arith, ints, clamps, b.0), omega (arith, ints, clamps, b.1)))
        | inr here ↦
            let e : k ≡ n = omega arith in
            let same : get_or (row_in rows k).1 j d ≡ get_or row.1 j d = ap (λ q. get_or (row_in rows q).1 j d) e in
            let b = from_first row.1 j d good.rising (subst (λ q. j < length (row_in rows q).1) e j_in) in
            (omega (arith, ints, clamps, b.0), omega (arith, ints, clamps, b.1))
      ];
      least = λ _. by_lt_z x left
          (λ m. let e : int_min left x ≡ x = omega (arith, ints, clamps) in
          record { row = n; place = 0; there = omega arith; in_row = some; here = sym (e ∙ ex) })
          (λ m. elim (cases_lt 0 n) [
            | inl before ↦ (let e : int_min left x ≡ left = omega (arith, ints, clamps) in subst (IsColumnOf rows (n + 1)) (sym e) (more_of rows n left (s.least before)))
            | inr none ↦ (let first = s.start (omega arith) in let begins = first.0 in let e : int_min left x ≡ x = omega (arith, ints, clamps) in record { row = n; place = 0; there = omega arith; in_row = some; here = sym (e ∙ ex) })
          ]);
      greatest = λ _. by_lt_z right y
          (λ m. let e : int_max right y ≡ y = omega (arith, ints, clamps) in
          record { row = n; place = length row.1 - 1; there = omega arith; in_row = end; here = sym (e ∙ ey) })
          (λ m. elim (cases_lt 0 n) [
            | inl before ↦ (let e : int_max right y ≡ right = omega (arith, ints, clamps) in subst (IsColumnOf rows (n + 1)) (sym e) (more_of rows n right (s.greatest before)))
            | inr none ↦ (let first = s.start (omega arith) in let begins = first.1 in let e : int_max right y ≡ y = omega (arith, ints, clamps) in record { row = n; place = length row.1 - 1; there = omega arith; in_row = end; here = sym (e ∙ ey) })
          ]);
    }

-- ---- the whole box

first_row_of : (rows : List EdgeRow) (row : EdgeRow) (k : ℕ) (v : ℤ) → k < length rows → row ≡ get_or rows k row → v ≡ row.0 → IsRowOf rows v
first_row_of rows row k v l e top = record { row = k; there = l; here = ap (λ (r : EdgeRow). r.0) (sym (e ∙ get_or_default rows k row (pos 0, []) l)) ∙ sym top }

pub hull_of : (rows : List EdgeRow) (n : ℕ) (left right top bottom : ℤ) (first last : EdgeRow) → AreRows rows → length rows ≤ n → n ≤ length rows → ColumnsTo rows n left right
    → 0 < length rows → first ≡ get_or rows 0 first → last ≡ get_or rows (length rows - 1) last → top ≡ first.0 → bottom ≡ last.0
    → IsHull rows (record { left = left; top = top; right = right; bottom = bottom })
hull_of rows n left right top bottom first last r all none s some ef el et eb =
    let same : n ≡ length rows = omega arith in
    let first_there : 0 < length rows = some in
    let last_there : length rows - 1 < length rows = omega arith in
    let top_row : IsRowOf rows top = first_row_of rows first 0 top first_there ef et in
    let bottom_row : IsRowOf rows bottom = first_row_of rows last (length rows - 1) bottom last_there el eb in
    record {
      none = λ e. absurd (omega arith);
      within = λ k d l.
          let at : get_or rows k d ≡ row_in rows k = get_or_default rows k d (pos 0, []) l in
          let b = from_first (map top_of rows) k (pos 0) r.canonical.are_rows.rising (subst (λ q. k < q) (sym (length-map rows top_of)) l) in
          let long = length-map rows top_of in
          let here : get_or (map top_of rows) k (pos 0) ≡ (row_in rows k).0 = get_or-map top_of rows k (pos 0, []) (pos 0) l in
          let low : get_or (map top_of rows) 0 (pos 0) ≡ (row_in rows 0).0 = get_or-map top_of rows 0 (pos 0, []) (pos 0) some in
          let high : get_or (map top_of rows) (length rows - 1) (pos 0) ≡ (row_in rows (length rows - 1)).0 = get_or-map top_of rows (length rows - 1) (pos 0, []) (pos 0) last_there in
          let at_low : (row_in rows 0).0 ≡ top = ap (λ (q : EdgeRow). q.0) (sym (ef ∙ get_or_default rows 0 first (pos 0, []) some)) ∙ sym et in
          let at_high : (row_in rows (length rows - 1)).0 ≡ bottom = ap (λ (q : EdgeRow). q.0) (sym (el ∙ get_or_default rows (length rows - 1) last (pos 0, []) last_there)) ∙ sym eb in
          let end : get_or (map top_of rows) (length (map top_of rows) - 1) (pos 0) ≡ get_or (map top_of rows) (length rows - 1) (pos 0) = ap (λ q. get_or (map top_of rows) (q - 1) (pos 0)) long in
          let within : IsRowWithin (record { left = left; top = top; right = right; bottom = bottom }) (row_in rows k) = ((omega (arith, ints, b.0), omega (arith, ints, b.1)), s.within k (omega arith)) in
          subst (IsRowWithin (record { left = left; top = top; right = right; bottom = bottom })) (sym at) within;
      left = λ _. subst (λ q. IsColumnOf rows q left) same (s.least (omega arith));
      right = λ _. subst (λ q. IsColumnOf rows q right) same (s.greatest (omega arith));
      top = λ _. top_row;
      bottom = λ _. bottom_row;
    }

pub hull_none : (rows : List EdgeRow) → length rows ≡ 0 → IsHull rows empty_rect
hull_none rows e = record { none = λ _. refl; within = λ k d l. absurd (omega arith); left = λ l. absurd (omega arith); right = λ l. absurd (omega arith); top = λ l. absurd (omega arith); bottom = λ l. absurd (omega arith) }

-- ---- any sets

-- a rectangle around a set is around what has the same pixels
pub box_same : (r : Rect) (s t : PixelSet) → ((p : Point) → t p ≡ s p) → IsBoxOf r s → IsBoxOf r t
box_same r s t e box =
    record { holds = λ p here. box.holds p (sym (e p) ∙ here); smallest = λ q around p here. box.smallest q (λ k in_s. around k (e k ∙ in_s)) p here }

-- a region without rows has the empty box
pub box_of_none : (rows : List EdgeRow) (r : Rect) → IsRegion rows r → rows ≡ [] → r ≡ empty_rect
box_of_none rows r g e = g.hull.none (ap length e)
