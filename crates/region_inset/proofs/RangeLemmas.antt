-- Whether an inset lies in range: the columns and rows beside the range decide.
use Rattle.std.proofs.Common.{◌≡◌, Bool, true, false, not, ◌&&◌, inl, inr, ℤ, pos, negsuc, ◌+ℤ◌, ◌-ℤ◌, ◌≤ℤ◌, refl, sym, ap, ◌∙◌, subst, arith}
use Rattle.std.specs.Prelude.{int_le}
use Rattle.std.specs.Int.{int_min, int_max}
use Rattle.std.proofs.lemmas.Bool.{and_parts, and_right, cases_Bool, false≢true}
use Rattle.std.proofs.lemmas.Int.{ints, by_lt_z, clamps}
use Rattle.tb_geom.specs.declared.point.Point.{Point}
use Rattle.tb_geom.specs.declared.rect.Rect.{Rect}
use Rattle.tb_geom.specs.Points.{PixelSet}
use Rattle.tb_geom.specs.Rects.{between, is_in_range, rect_holds}
use Rattle.tb_geom.proofs.RectLemmas.{between-in, holds_in}
use Rattle.region_rows.specs.Moves.{is_pixel_in_range}
use Rattle.shape_strips.proofs.RangeLemmas.{in_range_from, row_of, sides_in}
use Rattle.shape_strips.specs.declared.pen.Pen.{Pen}
use Rattle.shape_strips.specs.Frames.{has_size}
use Rattle.pixel_rows.specs.declared.columns.Columns.{Columns}
use Rattle.pixel_rows.specs.Bounds.{AreBounds}
use Rattle.pixel_rows.specs.Columns.{has_column, IsSteady}
use Rattle.pixel_rows.proofs.BoxLemmas.{from_false}
use Rattle.pixel_rows.proofs.ColumnLemmas.{beside_bounds}
use Rattle.region_inset.specs.Near.{widening}
use Rattle.region_inset.specs.Insets.{inset, region_frame, LiesInRange}
use Rattle.region_inset.specs.Ranges.{LiesAcross, IsLevel}
use Rattle.region_inset.proofs.NearLemmas.{widening_low}
use Rattle.region_inset.proofs.InsetLemmas.{back_down, back_left, back_right, back_up, none_above, none_below, none_left, none_right}

-- where a pixel of the set lies that is in range across and down
pub in_both : (p : Point) → between (negsuc 16383) p.h (pos 16383) ≡ true → between (negsuc 16383) p.v (pos 16383) ≡ true → is_pixel_in_range p ≡ true
in_both p a b = λ i. a i && b i

-- the column and row of a pixel in range
pub across_of : (s : PixelSet) → LiesInRange s → LiesAcross s
across_of s l p e = (and_parts (between (negsuc 16383) p.h (pos 16383)) (between (negsuc 16383) p.v (pos 16383)) (l p e)).0

-- one out of range is none of a set that lies in range
pub not_beyond : (s : PixelSet) (p : Point) → LiesInRange s → is_pixel_in_range p ≡ false → s p ≡ true → ⊥
not_beyond s p l out e = false≢true (sym out ∙ l p e)

-- nor is one of a row out of range
pub not_level : (s : PixelSet) (p : Point) → LiesInRange s → between (negsuc 16383) p.v (pos 16383) ≡ false → s p ≡ true → ⊥
not_level s p l out e = false≢true (sym out ∙ (and_parts (between (negsuc 16383) p.h (pos 16383)) (between (negsuc 16383) p.v (pos 16383)) (l p e)).1)

-- two sides that stay in range where a set is widened
pub ends_in : (first last d : ℤ) → (int_le (negsuc 16383) (first -ℤ widening d) && int_le (last +ℤ widening d) (pos 16383)) ≡ true → (negsuc 16383 ≤ℤ (first -ℤ widening d)) × ((last +ℤ widening d) ≤ℤ pos 16383)
ends_in first last d e =
    let both = and_parts (int_le (negsuc 16383) (first -ℤ widening d)) (int_le (last +ℤ widening d) (pos 16383)) e in
    (from_test (negsuc 16383) (first -ℤ widening d) both.0, from_test (last +ℤ widening d) (pos 16383) both.1)
  where
    from_test : (a b : ℤ) → int_le a b ≡ true → a ≤ℤ b
    from_test a b t = grind (arith, ints)

-- what is asked by its opposite
pub not_so : (b : Bool) → not b ≡ true → b ≡ false
not_so true e = sym e
not_so false e = refl

pub so_not : (b : Bool) → (b ≡ true → ⊥) → not b ≡ true
so_not true f = absurd (f refl)
so_not false f = refl

module _ (s : PixelSet) (r : Rect) (in_range : is_in_range r ≡ true) (around : (p : Point) → rect_holds r p ≡ false → s p ≡ false) (dh dv : ℤ) where
  -- what stays in range by the box
  pub across_by_box : negsuc 16383 ≤ℤ (r.left -ℤ widening dh) → (r.right +ℤ widening dh) ≤ℤ pos 16383 → LiesAcross (inset s dh dv)
  across_by_box low high p e =
      by_lt_z p.h (negsuc 16383)
      (λ out. absurd (false≢true (sym (none_left s r around dh dv p.h p.v (omega (arith, ints))) ∙ e)))
      (λ from. by_lt_z p.h (pos 16383)
      (λ to. between-in (negsuc 16383) p.h (pos 16383) from to)
      (λ out. absurd (false≢true (sym (none_right s r around dh dv p.h p.v (omega (arith, ints))) ∙ e))))

  pub down_by_box : LiesAcross (inset s dh dv) → negsuc 16383 ≤ℤ (r.top -ℤ widening dv) → (r.bottom +ℤ widening dv) ≤ℤ pos 16383 → LiesInRange (inset s dh dv)
  down_by_box across low high p e = in_both p (across p e) (
      by_lt_z p.v (negsuc 16383)
      (λ out. absurd (false≢true (sym (none_above s r around dh dv p.h p.v (omega (arith, ints))) ∙ e)))
      (λ from. by_lt_z p.v (pos 16383)
      (λ to. between-in (negsuc 16383) p.v (pos 16383) from to)
      (λ out. absurd (false≢true (sym (none_below s r around dh dv p.h p.v (omega (arith, ints))) ∙ e)))))

  -- a column that has a pixel of it has one no further than beside the range
  at_level : (h v : ℤ) → inset s dh dv (record { h = h; v = v }) ≡ true → (w : ℤ) × IsLevel w × (inset s dh dv (record { h = h; v = w }) ≡ true)
  at_level h v e =
      let sides = sides_in r in_range in
      let top = sides.top_low in
      let bottom = sides.bottom_high in
      by_lt_z v (negsuc 16384)
      (λ out. (negsuc 16384, (omega (arith, ints), omega (arith, ints)), back_up s r around dh dv (negsuc 16384) h v (omega (arith, ints)) (omega (arith, ints)) e))
      (λ from. by_lt_z (pos 16383) v
      (λ out. (pos 16383, (omega (arith, ints), omega (arith, ints)), back_down s r around dh dv (pos 16383) h v (omega (arith, ints)) (omega (arith, ints)) e))
      (λ to. (v, (from, to), e)))

  -- where the columns beside the range have none there, the columns lie in range
  pub across_by_columns : ((v : ℤ) → IsLevel v → inset s dh dv (record { h = negsuc 16384; v = v }) ≡ true → ⊥) → ((v : ℤ) → IsLevel v → inset s dh dv (record { h = pos 16383; v = v }) ≡ true → ⊥)
      → LiesAcross (inset s dh dv)
  across_by_columns left right p e =
      let sides = sides_in r in_range in
      let first = sides.left_low in
      let last = sides.right_high in
      by_lt_z p.h (negsuc 16383)
      (λ out. let one = at_level (negsuc 16384) p.v (back_left s r around dh dv (negsuc 16384) p.h p.v (omega (arith, ints)) (omega (arith, ints)) e) in absurd (left one.0 one.1 one.2))
      (λ from. by_lt_z p.h (pos 16383)
      (λ to. between-in (negsuc 16383) p.h (pos 16383) from to)
      (λ out. let one = at_level (pos 16383) p.v (back_right s r around dh dv (pos 16383) p.h p.v (omega (arith, ints)) (omega (arith, ints)) e) in absurd (right one.0 one.1 one.2)))

  -- and so with rows
  pub down_by_rows : LiesAcross (inset s dh dv) → ((h : ℤ) → inset s dh dv (record { h = h; v = negsuc 16384 }) ≡ true → ⊥) → ((h : ℤ) → inset s dh dv (record { h = h; v = pos 16383 }) ≡ true → ⊥)
      → LiesInRange (inset s dh dv)
  down_by_rows across top bottom p e =
      let sides = sides_in r in_range in
      let first = sides.top_low in
      let last = sides.bottom_high in
      in_both p (across p e) (
      by_lt_z p.v (negsuc 16383)
      (λ out. absurd (top p.h (back_up s r around dh dv (negsuc 16384) p.h p.v (omega (arith, ints)) (omega (arith, ints)) e)))
      (λ from. by_lt_z p.v (pos 16383)
      (λ to. between-in (negsuc 16383) p.v (pos 16383) from to)
      (λ out. absurd (bottom p.h (back_down s r around dh dv (pos 16383) p.h p.v (omega (arith, ints)) (omega (arith, ints)) e)))))

  -- ---- bounds

  -- the box, widened, and cut to the range
  abbrev widened : Rect
  widened = record {
    left = int_max (negsuc 16383) (r.left -ℤ widening dh);
    top = int_max (negsuc 16383) (r.top -ℤ widening dv);
    right = int_min (pos 16383) (r.right +ℤ widening dh);
    bottom = int_min (pos 16383) (r.bottom +ℤ widening dv);
  }

  pub widened_is : (box : Rect) (across down : ℤ) → across ≡ widening dh → down ≡ widening dv → box.left ≡ int_max (negsuc 16383) (r.left -ℤ across) → box.top ≡ int_max (negsuc 16383) (r.top -ℤ down)
      → box.right ≡ int_min (pos 16383) (r.right +ℤ across) → box.bottom ≡ int_min (pos 16383) (r.bottom +ℤ down) → box ≡ widened
  widened_is box across down a d left top right bottom = λ i. record {
    left = (left ∙ ap (λ z. int_max (negsuc 16383) (r.left -ℤ z)) a) i;
    top = (top ∙ ap (λ z. int_max (negsuc 16383) (r.top -ℤ z)) d) i;
    right = (right ∙ ap (λ z. int_min (pos 16383) (r.right +ℤ z)) a) i;
    bottom = (bottom ∙ ap (λ z. int_min (pos 16383) (r.bottom +ℤ z)) d) i;
  }

  pub widened_in_range : (box : Rect) → box ≡ widened → is_in_range box ≡ true
  widened_in_range box same =
      let sides = sides_in r in_range in
      let a = sides.left_low in
      let b = sides.left_high in
      let c = sides.top_low in
      let d = sides.top_high in
      let e = sides.right_low in
      let f = sides.right_high in
      let g = sides.bottom_low in
      let h = sides.bottom_high in
      let k = widening_low dh in
      let l = widening_low dv in
      subst (λ q. is_in_range q ≡ true) (sym same) (in_range_from widened (record {
        left_low = omega (arith, ints, clamps);
        left_high = omega (arith, ints, clamps);
        top_low = omega (arith, ints, clamps);
        top_high = omega (arith, ints, clamps);
        right_low = omega (arith, ints, clamps);
        right_high = omega (arith, ints, clamps);
        bottom_low = omega (arith, ints, clamps);
        bottom_high = omega (arith, ints, clamps);
      }))

  pub widened_around : (box : Rect) → box ≡ widened → (p : Point) → is_pixel_in_range p ≡ true → rect_holds box p ≡ false → inset s dh dv p ≡ false
  widened_around box same p inside out =
      let parts = and_parts (between (negsuc 16383) p.h (pos 16383)) (between (negsuc 16383) p.v (pos 16383)) inside in
      let columns = row_of (negsuc 16383) p.h (pos 16383) parts.0 in
      let rows = row_of (negsuc 16383) p.v (pos 16383) parts.1 in
      let a = columns.0 in
      let b = columns.1 in
      let c = rows.0 in
      let d = rows.1 in
      let not_held : rect_holds widened p ≡ false = subst (λ q. rect_holds q p ≡ false) same out in
      by_lt_z p.h (r.left -ℤ widening dh)
      (λ l. none_left s r around dh dv p.h p.v l)
      (λ from. by_lt_z p.h (r.right +ℤ widening dh)
      (λ to. by_lt_z p.v (r.top -ℤ widening dv)
      (λ l. none_above s r around dh dv p.h p.v l)
      (λ upper. by_lt_z p.v (r.bottom +ℤ widening dv)
      (λ lower. absurd (false≢true (sym not_held ∙ holds_in widened p (omega (arith, ints, clamps)) (omega (arith, ints, clamps)) (omega (arith, ints, clamps)) (omega (arith, ints, clamps)))))
      (λ l. none_below s r around dh dv p.h p.v l)))
      (λ l. none_right s r around dh dv p.h p.v l))

-- a rectangle around the pixels in range is around all of a set that lies in range
pub around_all : (s : PixelSet) (r : Rect) → LiesInRange s → is_in_range r ≡ true → ((p : Point) → is_pixel_in_range p ≡ true → rect_holds r p ≡ false → s p ≡ false) → AreBounds s r
around_all s r lies e around = record {
  in_range = e;
  around = λ p out. elim (cases_Bool (is_pixel_in_range p)) [
    | inl inside ↦ around p inside out
    | inr beyond ↦ from_false (s p) (not_beyond s p lies beyond)
  ];
}

-- a row within the bounds of a set is the row
pub row_of_all : (s : PixelSet) (r : Rect) (v : ℤ) (row : Columns) → AreBounds s r → ((h : ℤ) → has_column row h ≡ (between r.left h r.right && s (record { h = h; v = v }))) → (h : ℤ) → has_column row h ≡ s (record { h = h; v = v })
row_of_all s r v row b is h = elim (cases_Bool (between r.left h r.right)) [
  | inl e ↦ is h ∙ ap (λ t. t && s (record { h = h; v = v })) e
  | inr e ↦ is h ∙ ap (λ t. t && s (record { h = h; v = v })) e ∙ sym (beside_bounds s r v h b e)
]

-- ---- frames

-- a row of the frame is like that above where those of the set and of the inset are
pub frame_steady : (s : PixelSet) (pen : Pen) (dh dv v : ℤ) → dh ≡ pos pen.width → dv ≡ pos pen.height → IsSteady s v → IsSteady (inset s dh dv) v → IsSteady (region_frame s pen) v
frame_steady s pen dh dv v across down outer inner h =
    let inside : IsSteady (inset s (pos pen.width) (pos pen.height)) v = subst (λ d. IsSteady (inset s (pos pen.width) d) v) down (subst (λ d. IsSteady (inset s d dv) v) across inner) in
    λ i. has_size pen && (outer h i && not (inside h i))

-- a frame lies within the bounds of the set
pub frame_around : (s : PixelSet) (r : Rect) (pen : Pen) → AreBounds s r → AreBounds (region_frame s pen) r
frame_around s r pen b = record {
  in_range = b.in_range;
  around = λ p out. and_right (has_size pen) (s p && not (inset s (pos pen.width) (pos pen.height) p)) (ap (λ t. t && not (inset s (pos pen.width) (pos pen.height) p)) (b.around p out));
}

-- a row of it is a row of the set less that of the inset
module _ (s : PixelSet) (r : Rect) (pen : Pen) (dh dv v : ℤ) (across : dh ≡ pos pen.width) (down : dv ≡ pos pen.height) (row inside : Columns) (b : AreBounds s r) (size : has_size pen ≡ true)
    (outer : (h : ℤ) → has_column row h ≡ s (record { h = h; v = v })) (inner : (h : ℤ) → has_column inside h ≡ (between r.left h r.right && inset s dh dv (record { h = h; v = v }))) where
  pub frame_beside : (h : ℤ) → between r.left h r.right ≡ false → (has_column row h && not (has_column inside h)) ≡ false
  frame_beside h e = ap (λ t. t && not (has_column inside h)) (outer h ∙ beside_bounds s r v h b e)

  within : (h : ℤ) → between r.left h r.right ≡ true → has_column inside h ≡ inset s (pos pen.width) (pos pen.height) (record { h = h; v = v })
  within h e = inner h ∙ ap (λ t. t && inset s dh dv (record { h = h; v = v })) e ∙ (λ i. inset s (across i) (down i) (record { h = h; v = v }))

  pub frame_row : (h : ℤ) → (has_column row h && not (has_column inside h)) ≡ region_frame s pen (record { h = h; v = v })
  frame_row h = elim (cases_Bool (between r.left h r.right)) [
    | inl e ↦ (λ i. outer h i && not (within h e i)) ∙ sym (ap (λ t. t && (s (record { h = h; v = v }) && not (inset s (pos pen.width) (pos pen.height) (record { h = h; v = v })))) size)
    | inr e ↦ frame_beside h e ∙ sym (beside_bounds (region_frame s pen) r v h (frame_around s r pen b) e)
  ]

-- without a size there is none
pub no_frame : (s : PixelSet) (pen : Pen) (p : Point) → has_size pen ≡ false → region_frame s pen p ≡ false
no_frame s pen p e = ap (λ t. t && (s p && not (inset s (pos pen.width) (pos pen.height) p))) e
