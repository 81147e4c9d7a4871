-- Lines that a pen draws, row by row and in their rectangle.
use Rattle.std.proofs.Common.{◌≡◌, ◌⊎◌, inl, inr, ◌&&◌, ◌||◌, not, Bool, true, false, ◌<◌, ℤ, pos, ◌+ℤ◌, ◌-ℤ◌, ◌≤ℤ◌, ◌<ℤ◌, sym, ◌∙◌, arith}
use Rattle.std.specs.Prelude.{int_le, nat_lt}
use Rattle.std.specs.Int.{int_min, int_max}
use Rattle.std.proofs.lemmas.Int.{ints, clamps}
use Rattle.std.proofs.lemmas.Bool.{and_parts, and_from, lt-ltb, ltb-true, false_from_ne_true, true≢false}
use Rattle.tb_geom.specs.declared.point.Point.{Point}
use Rattle.tb_geom.specs.Rects.{between, is_coordinate, in_plane, rect_holds}
use Rattle.tb_geom.proofs.RectLemmas.{between-in}
use Rattle.shape_strips.specs.declared.run.Run.{Run}
use Rattle.shape_strips.specs.declared.pen.Pen.{Pen}
use Rattle.shape_strips.specs.Frames.{has_size}
use Rattle.shape_strips.specs.Places.{IsPlace}
use Rattle.shape_strips.specs.Runs.{run_holds}
use Rattle.shape_strips.specs.Lines.{thin_holds, some_below, line_holds, pen_fits, AreJoined}
use Rattle.shape_strips.proofs.RangeLemmas.{coordinate_low, coordinate_high, HasSides}
use Rattle.shape_strips.proofs.LineLemmas.{thin_in, thin_either}
use Rattle.shape_strips.proofs.JoinLemmas.{some_of, rows_joined, line_in}

-- ---- where a pen fits

pub place_of : (pen : Pen) (p : Point) → pen_fits pen p ≡ true → IsPlace p
place_of pen p e =
    let here = (and_parts (in_plane p) (not (has_size pen) || (int_le (p.h +ℤ pos pen.width) (pos 16383) && int_le (p.v +ℤ pos pen.height) (pos 16383))) e).0 in
    let both = and_parts (is_coordinate p.h) (is_coordinate p.v) here in
    record { h_low = coordinate_low p.h both.0; h_high = coordinate_high p.h both.0; v_low = coordinate_low p.v both.1; v_high = coordinate_high p.v both.1 }

le_from : (a b : ℤ) → int_le a b ≡ true → a ≤ℤ b
le_from a b e = grind (arith, ints)

given : (s x : Bool) → s ≡ true → (not s || x) ≡ true → x ≡ true
given true x e f = f
given false x e f = absurd (true≢false (sym e))

-- the columns and rows of a pen that fits
pub sized_fits : (pen : Pen) (p : Point) → has_size pen ≡ true → pen_fits pen p ≡ true
    → ((p.h +ℤ pos pen.width) ≤ℤ pos 16383) × ((p.v +ℤ pos pen.height) ≤ℤ pos 16383)
sized_fits pen p some e =
    let past = given (has_size pen) (int_le (p.h +ℤ pos pen.width) (pos 16383) && int_le (p.v +ℤ pos pen.height) (pos 16383)) some
    (and_parts (in_plane p) (not (has_size pen) || (int_le (p.h +ℤ pos pen.width) (pos 16383) && int_le (p.v +ℤ pos pen.height) (pos 16383))) e).1 in
    let both = and_parts (int_le (p.h +ℤ pos pen.width) (pos 16383)) (int_le (p.v +ℤ pos pen.height) (pos 16383)) past in
    (le_from (p.h +ℤ pos pen.width) (pos 16383) both.0, le_from (p.v +ℤ pos pen.height) (pos 16383) both.1)

-- a pen that draws has a column and a row
pub has_sides : (pen : Pen) → has_size pen ≡ true → (0 < pen.width) × (0 < pen.height)
has_sides pen e =
    let both = and_parts (nat_lt 0 pen.width) (nat_lt 0 pen.height) e in
    (omega (arith, ltb-true 0 pen.width both.0), omega (arith, ltb-true 0 pen.height both.1))

-- the sides of the rectangle of a line
pub sides_of_line : (a b : Point) (pen : Pen) → has_size pen ≡ true → pen_fits pen a ≡ true → pen_fits pen b ≡ true → (left top right bottom : ℤ)
    → left ≡ int_min a.h b.h → top ≡ int_min a.v b.v → right ≡ int_max a.h b.h +ℤ pos pen.width → bottom ≡ int_max a.v b.v +ℤ pos pen.height
    → HasSides (record { left = left; top = top; right = right; bottom = bottom })
sides_of_line a b pen some fits_a fits_b left top right bottom d e f g =
    let p = place_of pen a fits_a in
    let q = place_of pen b fits_b in
    let past_a = sized_fits pen a some fits_a in
    let past_b = sized_fits pen b some fits_b in
    let ahl = p.h_low in
    let ahh = p.h_high in
    let avl = p.v_low in
    let avh = p.v_high in
    let bhl = q.h_low in
    let bhh = q.h_high in
    let bvl = q.v_low in
    let bvh = q.v_high in
    let ar : (a.h +ℤ pos pen.width) ≤ℤ pos 16383 = past_a.0 in
    let ab : (a.v +ℤ pos pen.height) ≤ℤ pos 16383 = past_a.1 in
    let br : (b.h +ℤ pos pen.width) ≤ℤ pos 16383 = past_b.0 in
    let bb : (b.v +ℤ pos pen.height) ≤ℤ pos 16383 = past_b.1 in
    record {
      left_low = omega (arith, ints, clamps);
      left_high = omega (arith, ints, clamps);
      top_low = omega (arith, ints, clamps);
      top_high = omega (arith, ints, clamps);
      right_low = omega (arith, ints, clamps);
      right_high = omega (arith, ints, clamps);
      bottom_low = omega (arith, ints, clamps);
      bottom_high = omega (arith, ints, clamps);
    }

-- ---- what a pen does not cover

-- a pen without width or height draws nothing
pub line_none : (a b : Point) (pen : Pen) (p : Point) → has_size pen ≡ false → line_holds a b pen p ≡ false
unfolding line_holds
line_none a b pen p none = false_from_ne_true _ (λ e.
    let across = some_of pen.width (λ i. some_below pen.height (λ j. thin_holds a b (record { h = p.h -ℤ pos i; v = p.v -ℤ pos j }))) e in
    let down = some_of pen.height (λ j. thin_holds a b (record { h = p.h -ℤ pos across.0; v = p.v -ℤ pos j })) across.2 in
    let i : across.0 < pen.width = across.1 in
    let j : down.0 < pen.height = down.1 in
    absurd (true≢false (sym (and_from (nat_lt 0 pen.width) (nat_lt 0 pen.height) (lt-ltb 0 pen.width (omega arith)) (lt-ltb 0 pen.height (omega arith))) ∙ none)))

-- above and below a line
pub line_above : (u l : Point) (pen : Pen) (p : Point) → u.v ≤ℤ l.v → (p.v <ℤ u.v) ⊎ ((l.v +ℤ pos pen.height) ≤ℤ p.v) → line_holds u l pen p ≡ false
line_above u l pen p order (inl above) = false_from_ne_true _ (λ e.
    let is = line_in u l pen p e in
    let top : int_min u.v l.v ≤ℤ p.v = is.top in
    absurd (omega (arith, ints, clamps)))
line_above u l pen p order (inr below) = false_from_ne_true _ (λ e.
    let is = line_in u l pen p e in
    let bottom : p.v <ℤ (int_max u.v l.v +ℤ pos pen.height) = is.bottom in
    absurd (omega (arith, ints, clamps)))

-- beside the rectangle of a line
pub line_outside : (a b : Point) (pen : Pen) (p : Point) (left top right bottom : ℤ) → left ≡ int_min a.h b.h → top ≡ int_min a.v b.v
    → right ≡ int_max a.h b.h +ℤ pos pen.width → bottom ≡ int_max a.v b.v +ℤ pos pen.height
    → rect_holds (record { left = left; top = top; right = right; bottom = bottom }) p ≡ false → line_holds a b pen p ≡ false
line_outside a b pen p left top right bottom d e f g out = false_from_ne_true _ (λ held.
    let is = line_in a b pen p held in
    let first : int_min a.h b.h ≤ℤ p.h = is.left in
    let last : p.h <ℤ (int_max a.h b.h +ℤ pos pen.width) = is.right in
    let high : int_min a.v b.v ≤ℤ p.v = is.top in
    let low : p.v <ℤ (int_max a.v b.v +ℤ pos pen.height) = is.bottom in
    absurd (true≢false (sym (and_from (between left p.h right) (between top p.v bottom)
    (between-in left p.h right (omega (arith, ints)) (omega (arith, ints))) (between-in top p.v bottom (omega (arith, ints)) (omega (arith, ints)))) ∙ out)))

-- ---- rows of lines

pub line_either : (a b : Point) (pen : Pen) (p : Point) → line_holds a b pen p ≡ line_holds b a pen p
unfolding line_holds
line_either a b pen p = λ k. some_below pen.width (λ i. some_below pen.height (λ j. thin_either a b (record { h = p.h -ℤ pos i; v = p.v -ℤ pos j }) k))

-- the columns of a pen that is in rows of a thin line
pub line_row : (u l : Point) (pen : Pen) (first last h v : ℤ) (run : Run) → u.v ≤ℤ l.v → AreJoined (thin_holds u l) first last run
    → first ≡ int_max u.v ((v -ℤ pos pen.height) +ℤ pos 1) → last ≡ int_min l.v v
    → some_below pen.width (λ i. run_holds run (h -ℤ pos i)) ≡ line_holds u l pen (record { h = h; v = v })
unfolding line_holds
line_row u l pen first last h v run order joined f g =
    λ k. some_below pen.width (λ i. rows_joined (thin_holds u l) u.v l.v first last v (h -ℤ pos i) pen.height run joined f g rows k)
  where
    rows : (p : Point) → thin_holds u l p ≡ true → (u.v ≤ℤ p.v) × (p.v ≤ℤ l.v)
    rows p e =
        let is = thin_in u l p e in
        let top : int_min u.v l.v ≤ℤ p.v = is.top in
        let bottom : p.v ≤ℤ int_max u.v l.v = is.bottom in
        (omega (arith, ints, clamps), omega (arith, ints, clamps))
