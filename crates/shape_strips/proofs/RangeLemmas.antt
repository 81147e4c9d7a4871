-- The sides of rectangles in range.
use Rattle.std.proofs.Common.{◌≡◌, ◌<◌, ◌&&◌, true, false, ℕ, ℤ, pos, negsuc, ◌-ℤ◌, ◌+ℤ◌, ◌≤ℤ◌, ◌<ℤ◌, arith, SFits, w32}
use Rattle.std.proofs.lemmas.Bool.{and_parts}
use Rattle.std.proofs.lemmas.Int.{ints}
use Rattle.std.specs.Prelude.{int_le, int_lt}
use Rattle.tb_geom.specs.declared.rect.Rect.{Rect}
use Rattle.tb_geom.specs.Rects.{between, is_coordinate, is_in_range, is_empty_rect}
use Rattle.tb_geom.proofs.RectLemmas.{sides_rise}
use Rattle.shape_strips.specs.declared.pen.Pen.{Pen}
use Rattle.shape_strips.specs.Frames.{inset_rect}

pub coordinate_low : (z : ℤ) → is_coordinate z ≡ true → negsuc 16383 ≤ℤ z
coordinate_low z e = grind (arith, ints)

pub coordinate_high : (z : ℤ) → is_coordinate z ≡ true → z ≤ℤ pos 16383
coordinate_high z e = grind (arith, ints)

pub coordinate_from : (z : ℤ) → negsuc 16383 ≤ℤ z → z ≤ℤ pos 16383 → is_coordinate z ≡ true
coordinate_from z l m = grind (arith, ints)

-- the bounds of the sides of a rectangle in range
pub record HasSides (r : Rect) : Type 0 where
  pub left_low : negsuc 16383 ≤ℤ r.left
  pub left_high : r.left ≤ℤ pos 16383
  pub top_low : negsuc 16383 ≤ℤ r.top
  pub top_high : r.top ≤ℤ pos 16383
  pub right_low : negsuc 16383 ≤ℤ r.right
  pub right_high : r.right ≤ℤ pos 16383
  pub bottom_low : negsuc 16383 ≤ℤ r.bottom
  pub bottom_high : r.bottom ≤ℤ pos 16383

pub sides_in : (r : Rect) → is_in_range r ≡ true → HasSides r
sides_in r e =
    let p = and_parts (is_coordinate r.left) (is_coordinate r.top && (is_coordinate r.right && is_coordinate r.bottom)) e in
    let q = and_parts (is_coordinate r.top) (is_coordinate r.right && is_coordinate r.bottom) p.1 in
    let t = and_parts (is_coordinate r.right) (is_coordinate r.bottom) q.1 in
    record {
      left_low = coordinate_low r.left p.0;
      left_high = coordinate_high r.left p.0;
      top_low = coordinate_low r.top q.0;
      top_high = coordinate_high r.top q.0;
      right_low = coordinate_low r.right t.0;
      right_high = coordinate_high r.right t.0;
      bottom_low = coordinate_low r.bottom t.1;
      bottom_high = coordinate_high r.bottom t.1;
    }

pub in_range_from : (r : Rect) → HasSides r → is_in_range r ≡ true
in_range_from r s = λ i.
    coordinate_from r.left s.left_low s.left_high i
    && (coordinate_from r.top s.top_low s.top_high i
    && (coordinate_from r.right s.right_low s.right_high i && coordinate_from r.bottom s.bottom_low s.bottom_high i))

-- a rectangle in range that is made smaller, and still encloses something, is in range
pub inset_in_range : (r : Rect) (pen : Pen) → is_in_range r ≡ true → is_empty_rect (inset_rect r pen) ≡ false → is_in_range (inset_rect r pen) ≡ true
inset_in_range r pen e some =
    let s = sides_in r e in
    let rise = sides_rise (inset_rect r pen) some in
    let across : (r.left +ℤ pos pen.width) <ℤ (r.right -ℤ pos pen.width) = rise.across in
    let down : (r.top +ℤ pos pen.height) <ℤ (r.bottom -ℤ pos pen.height) = rise.down in
    in_range_from (inset_rect r pen) (record {
      left_low = omega (arith, ints);
      left_high = omega (arith, ints);
      top_low = omega (arith, ints);
      top_high = omega (arith, ints);
      right_low = omega (arith, ints);
      right_high = omega (arith, ints);
      bottom_low = omega (arith, ints);
      bottom_high = omega (arith, ints);
    })

-- a number between two others
pub row_of : (low x high : ℤ) → between low x high ≡ true → (low ≤ℤ x) × (x <ℤ high)
row_of low x high e =
    let both = and_parts (int_le low x) (int_lt x high) e in
    (grind (arith, ints), grind (arith, ints))

pub sum_fits : (z : ℤ) (n : ℕ) → negsuc 16383 ≤ℤ z → z ≤ℤ pos 16383 → n < 65536 → SFits w32 (z +ℤ pos n)
sum_fits z n l m small = search (arith, ints)

pub rest_fits : (z : ℤ) (n : ℕ) → negsuc 16383 ≤ℤ z → z ≤ℤ pos 16383 → n < 65536 → SFits w32 (z -ℤ pos n)
rest_fits z n l m small = search (arith, ints)
