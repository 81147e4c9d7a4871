-- The rows of a rectangle.
use Rattle.std.proofs.Common.{◌≡◌, ◌<◌, ◌≤◌, ◌&&◌, true, false, List, [], ◌∷◌, length, get_or, ℤ, pos, ◌<ℤ◌, refl, sym, ap, ◌∙◌, subst, arith, All}
use Rattle.std.proofs.lemmas.Int.{ints}
use Rattle.std.proofs.lemmas.Bool.{and_parts}
use Rattle.std.proofs.lemmas.List.Elements.{All-nil, All-cons}
use Rattle.tb_geom.specs.declared.point.Point.{Point}
use Rattle.tb_geom.specs.declared.rect.Rect.{Rect}
use Rattle.tb_geom.specs.Rects.{between, rect_holds, is_coordinate, is_in_range, is_empty_rect}
use Rattle.tb_geom.proofs.RectLemmas.{holds_none, sides_rise}
use Rattle.region_bytes.specs.Points.{IsInRange, in_rows}
use Rattle.region_bytes.proofs.Rows.{inverted-points_of, nil_has}
use Rattle.region_bytes.proofs.Short.{rect_rows, rect_canonical, rect_pixels, same_columns}
use Rattle.region_rows.specs.Edges.{IsCoordinate}
use Rattle.region_rows.specs.Rows.{EdgeRow, two_rows, AreRows}

same_rows : (r : Rect) → rect_rows r ≡ two_rows r
unfolding rect_rows
same_rows r = refl

-- the rows of an empty rectangle have no pixel
pub none_pixels : (r : Rect) (h v : ℤ) → is_empty_rect r ≡ true → in_rows [] h v ≡ rect_holds r (record { h = h; v = v })
none_pixels r h v e = nil_has h v ∙ sym (holds_none r e (record { h = h; v = v }))

-- those of any other have its pixels
pub two_pixels : (r : Rect) (h v : ℤ) → is_empty_rect r ≡ false → in_rows (two_rows r) h v ≡ rect_holds r (record { h = h; v = v })
two_pixels r h v e =
    let s = sides_rise r e in
    let p : Point = record { h = h; v = v } in
    ap (λ rows. in_rows rows h v) (sym (same_rows r)) ∙ sym (inverted-points_of (rect_rows r) p) ∙ rect_pixels r s.across s.down p

IsCoordinate-from : (z : ℤ) → is_coordinate z ≡ true → IsCoordinate z
IsCoordinate-from z e = (grind (arith, ints), grind (arith, ints))

-- and are those of a region
pub two_are_rows : (r : Rect) → is_empty_rect r ≡ false → is_in_range r ≡ true → AreRows (two_rows r)
two_are_rows r e range =
    let s = sides_rise r e in
    let p = and_parts (is_coordinate r.left) (is_coordinate r.top && (is_coordinate r.right && is_coordinate r.bottom)) range in
    let q = and_parts (is_coordinate r.top) (is_coordinate r.right && is_coordinate r.bottom) p.1 in
    let t = and_parts (is_coordinate r.right) (is_coordinate r.bottom) q.1 in
    let columns : All IsCoordinate (r.left ∷ r.right ∷ []) = All-cons IsCoordinate r.left (r.right ∷ []) (IsCoordinate-from r.left p.0) (All-cons IsCoordinate r.right [] (IsCoordinate-from r.right t.0) (All-nil IsCoordinate)) in
    record {
      canonical = rw (sym (same_rows r)) (rect_canonical r s.across s.down);
      in_range = All-cons IsInRange (r.top, r.left ∷ r.right ∷ []) ((r.bottom, r.left ∷ r.right ∷ []) ∷ []) (IsCoordinate-from r.top q.0, columns)
          (All-cons IsInRange (r.bottom, r.left ∷ r.right ∷ []) [] (IsCoordinate-from r.bottom t.1, columns) (All-nil IsInRange));
    }

-- two rows, the first of two points, are those of a rectangle
of_two : (upper lower : EdgeRow) (xs : List ℤ) (h v : ℤ) → upper.1 ≡ xs → AreRows (upper ∷ lower ∷ []) → 2 ≤ length xs → length xs < 3
    → in_rows (upper ∷ lower ∷ []) h v ≡ (between (get_or xs 0 (pos 0)) h (get_or xs 1 (pos 0)) && between upper.0 v lower.0)
of_two upper lower [] h v e r l m = absurd (omega arith)
of_two upper lower (x ∷ []) h v e r l m = absurd (omega arith)
of_two upper lower (x ∷ y ∷ z ∷ zs) h v e r l m = absurd (omega arith)
of_two upper lower (x ∷ y ∷ []) h v e r l m =
    let top = upper.0 in
    let bottom = lower.0 in
    let same : upper.1 ≡ lower.1 = same_columns upper.0 lower.0 upper.1 lower.1 r.canonical in
    let rect : Rect = record { left = x; top = upper.0; right = y; bottom = lower.0 } in
    let long : length upper.1 ≡ 2 = ap length e in
    let across : x <ℤ y = subst (λ l. get_or l 0 (pos 0) <ℤ get_or l 1 (pos 0)) e ((r.canonical.are_rows.each 0 (pos 0, []) (omega arith)).rising.rises 0 1 (omega arith) (omega arith)) in
    let down : upper.0 <ℤ lower.0 = r.canonical.are_rows.rising.rises 0 1 (omega arith) (omega arith) in
    let p : Point = record { h = h; v = v } in
    (λ i. in_rows ((upper.0, e i) ∷ (lower.0, (sym same ∙ e) i) ∷ []) h v)
    ∙ ap (λ rows. in_rows rows h v) (sym (same_rows rect)) ∙ sym (inverted-points_of (rect_rows rect) p) ∙ rect_pixels rect across down p

pub rect_of_rows : (rows : List EdgeRow) (upper lower : EdgeRow) (points : List ℤ) (h v : ℤ) → AreRows rows → 2 ≤ length rows → length rows < 3
    → upper ≡ get_or rows 0 upper → lower ≡ get_or rows 1 lower → points ≡ upper.1 → 2 ≤ length points → length points < 3
    → in_rows rows h v ≡ (between (get_or points 0 (pos 0)) h (get_or points 1 (pos 0)) && between upper.0 v lower.0)
rect_of_rows [] upper lower points h v r l m eu el ep p q = absurd (omega arith)
rect_of_rows (a ∷ []) upper lower points h v r l m eu el ep p q = absurd (omega arith)
rect_of_rows (a ∷ b ∷ c ∷ rest) upper lower points h v r l m eu el ep p q = absurd (omega arith)
rect_of_rows (a ∷ b ∷ []) upper lower points h v r l m eu el ep p q =
    let columns : a.1 ≡ points = ap (λ (row : EdgeRow). row.1) (sym eu) ∙ sym ep in
    of_two a b points h v columns r p q
    ∙ (λ i. between (get_or points 0 (pos 0)) h (get_or points 1 (pos 0)) && between (sym (ap (λ (row : EdgeRow). row.0) eu) i) v (sym (ap (λ (row : EdgeRow). row.0) el) i))

-- and they are its rows
pub rows_of_rect : (rows : List EdgeRow) (upper lower : EdgeRow) (points : List ℤ) → AreRows rows → 2 ≤ length rows → length rows < 3
    → upper ≡ get_or rows 0 upper → lower ≡ get_or rows 1 lower → points ≡ upper.1 → 2 ≤ length points → length points < 3
    → rows ≡ two_rows (record { left = get_or points 0 (pos 0); top = upper.0; right = get_or points 1 (pos 0); bottom = lower.0 })
rows_of_rect [] upper lower points r l m eu el ep p q = absurd (omega arith)
rows_of_rect (a ∷ []) upper lower points r l m eu el ep p q = absurd (omega arith)
rows_of_rect (a ∷ b ∷ c ∷ rest) upper lower points r l m eu el ep p q = absurd (omega arith)
rows_of_rect (a ∷ b ∷ []) upper lower [] r l m eu el ep p q = absurd (omega arith)
rows_of_rect (a ∷ b ∷ []) upper lower (x ∷ []) r l m eu el ep p q = absurd (omega arith)
rows_of_rect (a ∷ b ∷ []) upper lower (x ∷ y ∷ z ∷ zs) r l m eu el ep p q = absurd (omega arith)
rows_of_rect (a ∷ b ∷ []) upper lower (x ∷ y ∷ []) r l m eu el ep p q =
    let above : a.1 ≡ x ∷ y ∷ [] = ap (λ (row : EdgeRow). row.1) (sym eu) ∙ sym ep in
    let below : b.1 ≡ x ∷ y ∷ [] = sym (same_columns a.0 b.0 a.1 b.1 r.canonical) ∙ above in
    λ i. (ap (λ (row : EdgeRow). row.0) (sym eu) i, above i) ∷ (ap (λ (row : EdgeRow). row.0) (sym el) i, below i) ∷ []
