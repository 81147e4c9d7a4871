-- The box of the pixels of two regions is the rectangle around their boxes.
use Rattle.std.proofs.Common.{◌≡◌, ℕ, zero, suc, ◌+◌, ◌-◌, ◌≤◌, Bool, true, false, ◌||◌, List, [], length, get_or, ℤ, pos, negsuc, refl, sym, ap, ◌∙◌, subst, inl, inr, arith}
use Rattle.std.specs.Int.{int_min, int_max}
use Rattle.std.proofs.lemmas.Int.{ints}
use Rattle.std.proofs.lemmas.Bool.{cases_lt, true≢false}
use Rattle.std.proofs.lemmas.List.{get_or_default}
use Rattle.tb_geom.specs.declared.point.Point.{Point}
use Rattle.tb_geom.specs.declared.rect.Rect.{Rect}
use Rattle.tb_geom.specs.Points.{PixelSet}
use Rattle.tb_geom.specs.Rects.{IsBoxOf, rect_holds, is_empty_rect, empty_rect}
use Rattle.tb_geom.proofs.RectLemmas.{is_around, is_empty_from, sides_rise, same_rect, or_left, or_right, holds_none}
use Rattle.region_bytes.specs.Points.{in_rows}
use Rattle.region_rows.specs.Rows.{EdgeRow, AreRows}
use Rattle.region_rows.specs.Hull.{row_in, IsHull, IsRegion}
use Rattle.region_rows.proofs.Hulls.{ColumnsTo, ColumnsTo-none, ColumnsTo-more, hull_of, hull_none, hull_box, near_row, box_same}

-- ---- rows of points have a box

record HasColumns (rows : List EdgeRow) (n : ℕ) : Type 0 where
  pub left : ℤ
  pub right : ℤ
  pub to : ColumnsTo rows n left right

some_columns : (rows : List EdgeRow) (n : ℕ) → AreRows rows → n ≤ length rows → HasColumns rows n
some_columns rows zero r l = record { left = pos 16383; right = negsuc 16383; to = ColumnsTo-none rows }
some_columns rows (suc n) r l =
    let s = some_columns rows n r (omega arith) in
    let x : ℤ = get_or (row_in rows n).1 0 (pos 0) in
    let y : ℤ = get_or (row_in rows n).1 (length (row_in rows n).1 - 1) (pos 0) in
    let e : n + 1 ≡ suc n = omega arith in
    record { left = int_min s.left x; right = int_max s.right y; to = subst (λ q. ColumnsTo rows q (int_min s.left x) (int_max s.right y)) e (ColumnsTo-more rows n s.left s.right x y r (omega arith) s.to refl refl) }

record HasHull (rows : List EdgeRow) : Type 0 where
  pub box : Rect
  pub hull : IsHull rows box

some_hull : (rows : List EdgeRow) → AreRows rows → HasHull rows
some_hull rows r = elim (cases_lt 0 (length rows)) [
  | inl some ↦
      let s = some_columns rows (length rows) r (omega arith) in
      let first : EdgeRow = row_in rows 0 in
      let last : EdgeRow = row_in rows (length rows - 1) in
      record {
        box = record { left = s.left; top = first.0; right = s.right; bottom = last.0 };
        hull = hull_of rows (length rows) s.left s.right first.0 last.0 first last r (omega arith) (omega arith) s.to some (get_or_default rows 0 (pos 0, []) first some) (get_or_default rows (length rows - 1) (pos 0, []) last (omega arith)) refl refl;
      }
  | inr none ↦ record { box = empty_rect; hull = hull_none rows (omega arith) }
]

-- ---- and one alone

-- two rectangles that have pixels, and are both the box of a set, are the same
pub same_boxes : (r q : Rect) (s : PixelSet) → is_empty_rect r ≡ false → is_empty_rect q ≡ false → IsBoxOf r s → IsBoxOf q s → r ≡ q
same_boxes r q s some_r some_q a b =
    let m = is_around r q (sides_rise r some_r) (λ p here. a.smallest q b.holds p here) in
    let n = is_around q r (sides_rise q some_q) (λ p here. b.smallest r a.holds p here) in
    let left = m.left in
    let top = m.top in
    let right = m.right in
    let bottom = m.bottom in
    let other_left = n.left in
    let other_top = n.top in
    let other_right = n.right in
    let other_bottom = n.bottom in
    same_rect r q (omega (arith, ints)) (omega (arith, ints)) (omega (arith, ints)) (omega (arith, ints))

-- a rectangle that has a pixel is not empty
pub not_empty : (r : Rect) (p : Point) → rect_holds r p ≡ true → is_empty_rect r ≡ false
not_empty r p here = by (is_empty_rect r) refl
  where
    by : (b : Bool) → is_empty_rect r ≡ b → b ≡ false
    by true e = absurd (true≢false (sym here ∙ holds_none r e p))
    by false e = refl

-- the box of the pixels of two sets
united_box : (r q u : Rect) (s t : PixelSet) → IsBoxOf r s → IsBoxOf q t → IsBoxOf u (λ p. rect_holds r p || rect_holds q p) → IsBoxOf u (λ p. s p || t p)
united_box r q u s t a b c = record {
  holds = λ p here. c.holds p (either (s p) (t p) (rect_holds r p) (rect_holds q p) (a.holds p) (b.holds p) here);
  smallest = λ z around. c.smallest z (λ p here. one_in (rect_holds r p) (rect_holds q p) (rect_holds z p) here (λ e. a.smallest z (λ k in_s. around k (or_left _ _ in_s)) p e) (λ e. b.smallest z (λ k in_t. around k (or_right (s k) _ in_t)) p e));
}
  where
    either : (x y z w : Bool) → (x ≡ true → z ≡ true) → (y ≡ true → w ≡ true) → (x || y) ≡ true → (z || w) ≡ true
    either true y z w f g e = or_left z w (f refl)
    either false y z w f g e = or_right z w (g e)

    one_in : (x y z : Bool) → (x || y) ≡ true → (x ≡ true → z ≡ true) → (y ≡ true → z ≡ true) → z ≡ true
    one_in true y z e f g = f refl
    one_in false y z e f g = g e

-- so the rows of a union have the rectangle around both boxes as theirs
pub united : (a b rows : List EdgeRow) (ra rb u : Rect) → IsRegion a ra → IsRegion b rb → AreRows rows → ((h v : ℤ) → in_rows rows h v ≡ (in_rows a h v || in_rows b h v)) → IsBoxOf u (λ p. rect_holds ra p || rect_holds rb p) → (is_empty_rect u ≡ true → u ≡ empty_rect) → IsRegion rows u
united a b rows ra rb u ga gb r pixels box none =
    let found = some_hull rows r in
    let whole : IsRegion rows found.box = record { are_rows = r; hull = found.hull } in
    let exact = hull_box rows found.box whole in
    let around = box_same u (λ p. in_rows a p.h p.v || in_rows b p.h p.v) (λ p. in_rows rows p.h p.v) (λ p. pixels p.h p.v) (united_box ra rb u (λ p. in_rows a p.h p.v) (λ p. in_rows b p.h p.v) (hull_box a ra ga) (hull_box b rb gb) box) in
    elim (cases_lt 0 (length rows)) [
      | inl some ↦
          let n = near_row rows found.box.top r (found.hull.top some) in
          let p : Point = record { h = n.0; v = n.1 } in
          subst (IsRegion rows) (same_boxes found.box u (λ p. in_rows rows p.h p.v) (not_empty found.box p (exact.holds p n.2)) (not_empty u p (around.holds p n.2)) exact around) whole
      | inr nothing ↦
          let empty : found.box ≡ empty_rect = found.hull.none (omega arith) in
          let out : (p : Point) → rect_holds u p ≡ false = λ p. outside u found.box p (λ here. around.smallest found.box exact.holds p here) (ap (λ q. rect_holds q p) empty ∙ holds_none empty_rect refl p) in
          subst (IsRegion rows) (empty ∙ sym (none (is_empty_from u out))) whole
    ]
  where
    outside : (u box : Rect) (p : Point) → (rect_holds u p ≡ true → rect_holds box p ≡ true) → rect_holds box p ≡ false → rect_holds u p ≡ false
    outside u box p f e = by (rect_holds u p) refl
      where
        by : (b : Bool) → rect_holds u p ≡ b → b ≡ false
        by true g = absurd (true≢false (sym (f g) ∙ e))
        by false g = refl
