-- Regions whose boxes are apart, and a rectangle that holds the box of another region.
use Rattle.std.proofs.Common.{◌≡◌, Bool, true, false, not, ◌&&◌, List, [], get_or, pos, refl, sym, ap, subst, ◌∙◌}
use Rattle.std.specs.Ordering.{int_eq}
use Rattle.std.proofs.lemmas.Bool.{true≢false, false≢true, and_parts}
use Rattle.std.proofs.lemmas.Bool.Decides.{Decides-int_eq}
use Rattle.tb_geom.specs.declared.point.Point.{Point}
use Rattle.tb_geom.specs.declared.rect.Rect.{Rect}
use Rattle.tb_geom.specs.Rects.{rect_holds, is_empty_rect, is_in_range, IsBoxOf}
use Rattle.tb_geom.specs.Pixels.{Pixels, holds, pixels_where}
use Rattle.region_bytes.specs.Points.{in_rows}
use Rattle.region_rows.specs.Rows.{EdgeRow, two_rows, AreRows}
use Rattle.region_rows.specs.Hull.{IsRegion}
use Rattle.region_rows.proofs.Hulls.{box_same, held, hull_box}
use Rattle.region_rows.proofs.Merged.{int_eq-same}
use Rattle.region_rows.proofs.Plane.{has_viewed, same_list}
use Rattle.region_rows.proofs.RectRows.{two_are_rows, two_pixels}
use Rattle.scan_region.proofs.UnitedBoxes.{not_empty, same_boxes}

-- a pixel of a region lies in its box
pub in_box : (rows : List EdgeRow) (r : Rect) (s : Pixels) → IsRegion rows r → pixels_where (in_rows rows) ≡ s → (p : Point) → holds s p ≡ true → rect_holds r p ≡ true
in_box rows r s g e p here = held rows r g p (sym (has_viewed rows s e g.are_rows p.h p.v) ∙ here)

-- and that is the smallest rectangle around its pixels
pub box_of : (rows : List EdgeRow) (r : Rect) (s : Pixels) → IsRegion rows r → pixels_where (in_rows rows) ≡ s → IsBoxOf r (holds s)
box_of rows r s g e = box_same r (λ p. in_rows rows p.h p.v) (holds s) (λ p. has_viewed rows s e g.are_rows p.h p.v) (hull_box rows r g)

pub not_both : (a b : Bool) → (a ≡ true → b ≡ true → ⊥) → (a && b) ≡ false
not_both true true f = absurd (f refl refl)
not_both true false f = refl
not_both false b f = refl

pub none_left : (a b : Bool) → (a ≡ true → b ≡ true) → (a && not b) ≡ false
none_left true true f = refl
none_left true false f = absurd (false≢true (f refl))
none_left false b f = refl

-- what is in no second set stays
pub alone_left : (a b : Bool) → (a && b) ≡ false → a ≡ (a && not b)
alone_left true true e = e
alone_left true false e = refl
alone_left false b e = refl

-- what both boxes hold is in what they share
pub in_both : (r q shared : Rect) (p : Point) → rect_holds shared p ≡ (rect_holds r p && rect_holds q p) → rect_holds shared p ≡ false → rect_holds r p ≡ true → rect_holds q p ≡ true → ⊥
in_both r q shared p e none a b = true≢false (sym (λ i. a i && b i) ∙ sym e ∙ none)

-- what is in a box that a rectangle holds is in the rectangle
pub in_second : (r q shared : Rect) (p : Point) → rect_holds shared p ≡ (rect_holds r p && rect_holds q p) → shared ≡ r → rect_holds r p ≡ true → rect_holds q p ≡ true
in_second r q shared p e same a = (and_parts (rect_holds r p) (rect_holds q p) (sym e ∙ ap (λ s. rect_holds s p) same ∙ a)).1

-- rectangles that pass the test for equal ones are the same
pub same_sides : (a b : Rect) → (int_eq a.left b.left && (int_eq a.top b.top && (int_eq a.right b.right && int_eq a.bottom b.bottom))) ≡ true → a ≡ b
same_sides a b e =
    let p = and_parts (int_eq a.left b.left) (int_eq a.top b.top && (int_eq a.right b.right && int_eq a.bottom b.bottom)) e in
    let q = and_parts (int_eq a.top b.top) (int_eq a.right b.right && int_eq a.bottom b.bottom) p.1 in
    let r = and_parts (int_eq a.right b.right) (int_eq a.bottom b.bottom) q.1 in
    let left = (Decides-int_eq a.left b.left).0 p.0 in
    let top = (Decides-int_eq a.top b.top).0 q.0 in
    let right = (Decides-int_eq a.right b.right).0 r.0 in
    let bottom = (Decides-int_eq a.bottom b.bottom).0 r.1 in
    λ i. record { left = left i; top = top i; right = right i; bottom = bottom i }

-- rectangles of the same rows are the same
pub same_rect : (r q : Rect) → two_rows r ≡ two_rows q → r ≡ q
same_rect r q e = λ i. record {
  left = get_or (get_or (e i) 0 (pos 0, [])).1 0 (pos 0);
  top = (get_or (e i) 0 (pos 0, [])).0;
  right = get_or (get_or (e i) 0 (pos 0, [])).1 1 (pos 0);
  bottom = (get_or (e i) 1 (pos 0, [])).0;
}

-- and pass the test for equal ones
pub equal_sides : (a b : Rect) → a ≡ b → (int_eq a.left b.left && (int_eq a.top b.top && (int_eq a.right b.right && int_eq a.bottom b.bottom))) ≡ true
equal_sides a b e =
    subst (λ r. (int_eq a.left r.left && (int_eq a.top r.top && (int_eq a.right r.right && int_eq a.bottom r.bottom))) ≡ true) e
    (λ i. int_eq-same a.left i && (int_eq-same a.top i && (int_eq-same a.right i && int_eq-same a.bottom i)))

-- ---- a region that a rectangle holds

pub second_too : (a b : Bool) → (a && not b) ≡ false → a ≡ true → b ≡ true
second_too true true e m = refl
second_too true false e m = absurd (true≢false e)
second_too false b e m = absurd (false≢true m)

-- the rows of all pixels of a rectangle are its two rows
pub rows_of_rect : (rows : List EdgeRow) (r : Rect) (s : Pixels) → AreRows rows → pixels_where (in_rows rows) ≡ s → is_in_range r ≡ true → is_empty_rect r ≡ false → ((p : Point) → holds s p ≡ rect_holds r p) → rows ≡ two_rows r
rows_of_rect rows r s g e range some all =
    same_list rows (two_rows r) g (two_are_rows r some range) (λ h v. sym (has_viewed rows s e g h v) ∙ all (record { h = h; v = v }) ∙ sym (two_pixels r h v some))

-- a rectangle that holds all pixels of a region holds its box
pub holds_box : (rows : List EdgeRow) (own r : Rect) (s t : Pixels) → IsRegion rows own → pixels_where (in_rows rows) ≡ s → ((p : Point) → holds t p ≡ true → rect_holds r p ≡ true) → ((p : Point) → (holds s p && not (holds t p)) ≡ false) → (p : Point) → rect_holds own p ≡ true → rect_holds r p ≡ true
holds_box rows own r s t g e within none = (box_of rows own s g e).smallest r (λ p m. within p (second_too (holds s p) (holds t p) (none p) m))

-- what it shares with the box is the whole box
pub shares_box : (own r shared : Rect) (q : Point) → ((p : Point) → rect_holds shared p ≡ (rect_holds own p && rect_holds r p)) → ((p : Point) → rect_holds own p ≡ true → rect_holds r p ≡ true) → rect_holds own q ≡ true → shared ≡ own
shares_box own r shared q e within here =
    let both : (p : Point) → rect_holds own p ≡ true → rect_holds shared p ≡ true = λ p m. e p ∙ (λ i. m i && within p m i) in
    same_boxes shared own (rect_holds own) (not_empty shared q (both q here)) (not_empty own q here)
    (record { holds = both; smallest = λ t f p m. f p (and_parts (rect_holds own p) (rect_holds r p) (sym (e p) ∙ m)).0 })
    (record { holds = λ p m. m; smallest = λ t f p m. f p m })
