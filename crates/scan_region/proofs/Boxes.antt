-- The box of a region, as it is seen, and regions that are all of it.
use Rattle.std.proofs.Common.{◌≡◌, Bool, true, false, ◌&&◌, ◌||◌, not, List, ℤ, pos, ◌≤ℤ◌, int_le, refl, sym, ap, ◌∙◌, subst, arith}
use Rattle.std.proofs.Math.Bool.{and-false}
use Rattle.std.proofs.lemmas.Int.{ints, by_lt_z}
use Rattle.std.proofs.lemmas.Bool.{and_parts, false≢true}
use Rattle.tb_geom.specs.declared.point.Point.{Point}
use Rattle.tb_geom.specs.declared.rect.Rect.{Rect}
use Rattle.tb_geom.specs.Rects.{rect_holds, is_in_range, is_coordinate, is_empty_rect, empty_rect}
use Rattle.scan_region.specs.Descents.{IsUpright}
use Rattle.region_rows.specs.Edges.{IsCoordinate}
use Rattle.region_rows.specs.Hull.{IsRegion}
use Rattle.region_rows.specs.Rows.{EdgeRow}
use Rattle.region_rows.specs.Seen.{seen_point, seen_rect}
use Rattle.scan_region.proofs.Scanned.{twice, turned_box}
use Rattle.region_rows.proofs.SeenRows.{sides_in, ends_in}

-- ---- the box as it is seen

pub seen_box : (up : Bool) (r : Rect) (p : Point) → rect_holds (seen_rect up r) p ≡ rect_holds r (seen_point up p)
seen_box false r p = refl
seen_box true r p = ap (rect_holds (seen_rect true r)) (sym (twice p)) ∙ turned_box r (seen_rect true r) (seen_point true p) refl refl refl refl

both_in : (z : ℤ) → IsCoordinate z → is_coordinate z ≡ true
both_in z i =
    let a = i.0 in
    let b = i.1 in
    grind (arith, ints)

pub box_in_range : (rows : List EdgeRow) (r : Rect) → IsRegion rows r → is_in_range r ≡ true
box_in_range rows r g =
    let a = sides_in rows r g in
    let b = ends_in rows r g in
    λ i. both_in r.left a.0 i && (both_in r.top b.0 i && (both_in r.right a.1 i && both_in r.bottom b.1 i))

from_both : (z : ℤ) → is_coordinate z ≡ true → IsCoordinate z
from_both z e = (grind (arith, ints), grind (arith, ints))

pub sides_in_range : (r : Rect) → is_in_range r ≡ true → IsCoordinate r.left × IsCoordinate r.top × IsCoordinate r.right × IsCoordinate r.bottom
sides_in_range r e =
    let a = and_parts (is_coordinate r.left) (is_coordinate r.top && (is_coordinate r.right && is_coordinate r.bottom)) e in
    let b = and_parts (is_coordinate r.top) (is_coordinate r.right && is_coordinate r.bottom) a.1 in
    let c = and_parts (is_coordinate r.right) (is_coordinate r.bottom) b.1 in
    (from_both r.left a.0, from_both r.top b.0, from_both r.right c.0, from_both r.bottom c.1)

-- ---- an area cut to a box

-- a part whose pixels lie in a box, in the area cut to it
pub cut_part : (a b c d : Bool) → c ≡ (a && b) → (d ≡ true → b ≡ true) → (c && d) ≡ (a && d)
cut_part true true c true e f = ap (λ x. x && true) e
cut_part true true c false e f = and-false c
cut_part true false c true e f = absurd (false≢true (f refl))
cut_part true false c false e f = and-false c
cut_part false b c d e f = ap (λ x. x && d) e

-- and one that is all of its box
pub cut_full : (a b c d : Bool) → c ≡ (a && b) → d ≡ b → (c && true) ≡ (a && d)
cut_full true b c d e f = (λ i. e i && true) ∙ last b ∙ sym f
  where
    last : (b : Bool) → (b && true) ≡ b
    last true = refl
    last false = refl
cut_full false b c d e f = λ i. e i && true

-- a hole whose box lies apart takes nothing away
pub apart_hole : (a b d : Bool) → (a && b) ≡ false → (d ≡ true → b ≡ true) → (a && true) ≡ (a && not d)
apart_hole true b true e f = absurd (false≢true (sym e ∙ f refl))
apart_hole true b false e f = refl
apart_hole false b d e f = refl

-- what two areas share lies upright
pub upright : (r : Rect) → r.right ≤ℤ pos 2147483647 → (is_empty_rect r ≡ true → r ≡ empty_rect) → IsUpright r
upright r small none = by_lt_z r.left r.right (λ l. (omega (arith, ints), omega (arith, ints), λ m. l)) (λ l. subst IsUpright (sym (none (empty l))) (omega (arith, ints), omega (arith, ints), λ m. m))
  where
    empty : r.right ≤ℤ r.left → is_empty_rect r ≡ true
    empty l =
        let first : int_le r.right r.left ≡ true = grind (arith, ints) in
        λ i. first i || int_le r.bottom r.top

-- a rectangle that is not empty has its first pixel
pub first_pixel : (r : Rect) → is_empty_rect r ≡ false → rect_holds r (record { h = r.left; v = r.top }) ≡ true
first_pixel r e = by_lt_z r.left r.right
    (λ l. by_lt_z r.top r.bottom (λ m. grind (arith, ints)) (λ m. let none : int_le r.bottom r.top ≡ true = grind (arith, ints) in absurd (false≢true (sym e ∙ (λ i. int_le r.right r.left || none i) ∙ last (int_le r.right r.left)))))
    (λ l. let none : int_le r.right r.left ≡ true = grind (arith, ints) in absurd (false≢true (sym e ∙ (λ i. none i || int_le r.bottom r.top))))
  where
    last : (b : Bool) → (b || true) ≡ true
    last true = refl
    last false = refl
