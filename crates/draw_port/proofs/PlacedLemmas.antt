-- Rectangles of a canvas on its map, and rectangles around operations.
use Rattle.std.proofs.Common.{◌≡◌, ℕ, Bool, true, false, not, ◌&&◌, ℤ, pos, negsuc, ◌+ℤ◌, ◌-ℤ◌, ◌≤ℤ◌, ◌<ℤ◌, refl, sym, ap, ◌∙◌, arith, w32}
use Rattle.std.specs.Prelude.{int_le, int_lt}
use Rattle.std.specs.Ordering.{int_eq}
use Rattle.std.specs.Int.{saturate_signed}
use Rattle.std.proofs.lemmas.Int.{ints, clamps}
use Rattle.std.proofs.lemmas.Bool.Decides.{nat_tests}
use Rattle.std.proofs.lemmas.Bool.{and_parts}
use Rattle.tb_geom.specs.declared.point.Point.{Point}
use Rattle.tb_geom.specs.declared.rect.Rect.{Rect}
use Rattle.tb_geom.specs.Points.{minus}
use Rattle.tb_geom.specs.Rects.{between, rect_holds}
use Rattle.tb_geom.proofs.RectLemmas.{sides_of, holds_in}
use Rattle.bit_map.specs.Bits.{is_below}
use Rattle.bit_map.specs.Images.{Image, image_holds}
use Rattle.draw_port.specs.Places.{is_far, HasNear}

-- a sum that stops at the ends of 32 bits lies below the numbers between those ends as the sum does
le-saturated : (low o x : ℤ) → negsuc 2147483647 ≤ℤ x → x <ℤ pos 2147483647 → int_le (saturate_signed w32 (low +ℤ o)) x ≡ int_le low (x -ℤ o)
le-saturated low o x l m = grind (arith, ints, clamps)

lt-saturated : (high o x : ℤ) → negsuc 2147483647 ≤ℤ x → x <ℤ pos 2147483647 → int_lt x (saturate_signed w32 (high +ℤ o)) ≡ int_lt (x -ℤ o) high
lt-saturated high o x l m = grind (arith, ints, clamps)

-- sums that stop at the ends of 32 bits tell apart the numbers between those ends as the sums do
between-saturated : (low high o x : ℤ) → negsuc 2147483647 ≤ℤ x → x <ℤ pos 2147483647 → between (saturate_signed w32 (low +ℤ o)) x (saturate_signed w32 (high +ℤ o)) ≡ between low (x -ℤ o) high
between-saturated low high o x l m = λ i. le-saturated low o x l m i && lt-saturated high o x l m i

-- the sides of the rectangle are numbers of 32 bits
pub record IsNear (r : Rect) : Type 0 where
  pub left : negsuc 2147483647 ≤ℤ r.left
  pub top : negsuc 2147483647 ≤ℤ r.top
  pub right : r.right ≤ℤ pos 2147483647
  pub bottom : r.bottom ≤ℤ pos 2147483647

not_far : (r : Rect) (p : Point) → IsNear r → rect_holds r p ≡ true → is_far p ≡ false
not_far r p near e =
    let s = sides_of r p e in
    ap not (holds_in (record { left = negsuc 2147483647; top = negsuc 2147483647; right = pos 2147483647; bottom = pos 2147483647 }) p (omega (arith, ints, near.left)) (omega (arith, ints, near.right)) (omega (arith, ints, near.top)) (omega (arith, ints, near.bottom)))

-- within a clip, what is enclosed by a rectangle that is far is what is enclosed by the one that was moved
pub holds-within : (clip rect there : Rect) (o : Point) → IsNear clip → ((p : Point) → is_far p ≡ false → rect_holds there p ≡ rect_holds rect (minus p o)) → (p : Point) → (rect_holds clip p && rect_holds there p) ≡ (rect_holds clip p && rect_holds rect (minus p o))
holds-within clip rect there o near moved p = by_test (rect_holds clip p) refl
  where
    by_test : (b : Bool) → rect_holds clip p ≡ b → (b && rect_holds there p) ≡ (b && rect_holds rect (minus p o))
    by_test true e = moved p (not_far clip p near e)
    by_test false e = refl

pub not-false : (b : Bool) → not b ≡ false → b ≡ true
not-false true e = refl
not-false false e = absurd (cc)

-- the sides of a moved rectangle, which stop at the ends of 32 bits, enclose what those of the rectangle do
pub holds-placed : (rect : Rect) (o p : Point) → is_far p ≡ false → rect_holds (record { left = saturate_signed w32 (rect.left +ℤ o.h); top = saturate_signed w32 (rect.top +ℤ o.v); right = saturate_signed w32 (rect.right +ℤ o.h); bottom = saturate_signed w32 (rect.bottom +ℤ o.v) }) p ≡ rect_holds rect (minus p o)
holds-placed rect o p near =
    let s = sides_of (record { left = negsuc 2147483647; top = negsuc 2147483647; right = pos 2147483647; bottom = pos 2147483647 }) p (not-false _ near) in
    λ i. between-saturated rect.left rect.right o.h p.h s.left s.right i && between-saturated rect.top rect.bottom o.v p.v s.top s.bottom i

-- ---- rectangles around sets

lt-stopped : (x y : ℤ) → negsuc 2147483647 ≤ℤ x → x <ℤ pos 2147483647 → int_lt x (saturate_signed w32 y) ≡ int_lt x y
lt-stopped x y l m = grind (arith, ints, clamps)

-- a rectangle whose last sides stop at the ends of 32 bits
pub enclosed : (start : Point) (w h : ℤ) → HasNear (record { left = start.h; top = start.v; right = saturate_signed w32 (start.h +ℤ w); bottom = saturate_signed w32 (start.v +ℤ h) }) (λ p. between start.h p.h (start.h +ℤ w) && between start.v p.v (start.v +ℤ h))
enclosed start w h p near =
    let s = sides_of (record { left = negsuc 2147483647; top = negsuc 2147483647; right = pos 2147483647; bottom = pos 2147483647 }) p (not-false _ near) in
    λ i. (int_le start.h p.h && lt-stopped p.h (start.h +ℤ w) s.left s.right i) && (int_le start.v p.v && lt-stopped p.v (start.v +ℤ h) s.top s.bottom i)

pub both_true : (a b c d : Bool) → (a ≡ true → c ≡ true) → (b ≡ true → d ≡ true) → (a && b) ≡ true → (c && d) ≡ true
both_true a b c d f g e = let t = and_parts a b e in (λ i. f t.0 i && g t.1 i)

-- one row, or one column
pub one_row : (x v : ℤ) → between v x (v +ℤ pos 1) ≡ int_eq x v
one_row x v = grind (arith, ints)

below-between : (limit : ℕ) (x : ℤ) → is_below limit x ≡ between (pos 0) x (pos limit)
below-between limit (pos n) = grind (arith, ints, nat_tests)
below-between limit (negsuc n) = grind (arith, ints)

moved-between : (x o w : ℤ) → between (pos 0) (x -ℤ o) w ≡ true → between o x (o +ℤ w) ≡ true
moved-between x o w e = grind (arith, ints)

pub image-around : (i : Image) (o p : Point) → image_holds i (minus p o) ≡ true → (between o.h p.h (o.h +ℤ pos i.width) && between o.v p.v (o.v +ℤ pos i.height)) ≡ true
unfolding image_holds
image-around i o p e =
    both_true (is_below i.width (p.h -ℤ o.h)) (is_below i.height (p.v -ℤ o.v)) (between o.h p.h (o.h +ℤ pos i.width)) (between o.v p.v (o.v +ℤ pos i.height))
    (λ t. moved-between p.h o.h (pos i.width) (sym (below-between i.width (p.h -ℤ o.h)) ∙ t))
    (λ t. moved-between p.v o.v (pos i.height) (sym (below-between i.height (p.v -ℤ o.v)) ∙ t)) e
