-- The pixels of forms, and their bytes.
use Rattle.std.proofs.Common.{◌≡◌, inl, inr, ℕ, pos, ◌+ℤ◌, Bool, true, false, ◌&&◌, if◌then◌else◌, List, refl, sym, ◌∙◌, arith}
use Rattle.std.specs.Int.{int_min, int_max}
use Rattle.std.specs.List.{list_all}
use Rattle.std.proofs.lemmas.Bool.{and_left, and_parts, and_right, cases_Bool}
use Rattle.std.proofs.lemmas.Int.{ints}
use Rattle.tb_geom.specs.declared.point.Point.{Point}
use Rattle.tb_geom.specs.declared.rect.Rect as rect
use Rattle.tb_geom.specs.declared.refusal.Refusal.{Refusal}
use Rattle.tb_geom.specs.Points.{PixelSet}
use Rattle.tb_geom.specs.Pixels.{Pixels, holds}
use Rattle.tb_geom.specs.Rects.{empty_rect, in_plane, is_in_range, rect_holds}
use Rattle.tb_geom.proofs.PixelsLemmas.{same_holds, test_holds}
use Rattle.tb_geom.proofs.RectLemmas.{sides_of}
use Rattle.shape_strips.specs.declared.pen.Pen.{Pen}
use Rattle.shape_strips.specs.Frames.{frame_holds, has_size}
use Rattle.shape_strips.specs.Lines.{line_holds, pen_fits}
use Rattle.shape_strips.specs.declared.corner.Corner.{Corner}
use Rattle.shape_strips.specs.Rounds.{no_corner, oval_corner, round_holds}
use Rattle.shape_strips.proofs.PenLemmas.{line_none, line_outside, sides_of_line}
use Rattle.shape_strips.proofs.RangeLemmas.{coordinate_from, in_range_from, sides_in}
use Rattle.shape_strips.proofs.RoundLemmas.{outside_rect}
use Rattle.shape_arcs.specs.Wedges.{wedge_holds}
use Rattle.pixel_rows.specs.Told.{IsMeasured, AreRegionBytes, IsNotTold}
use Rattle.shape_region.proofs.RunLemmas.{no_frame}
use Rattle.lent_ops.specs.declared.form_ref.FormRef.{FormRef}
use Rattle.lent_ops.specs.declared.form_ref.FormRef.TheVariants.{Rect, Round, Oval, FrameRect, FrameRound, FrameOval, Arc, FrameArc, Line, Polygon, FramePolygon}
use Rattle.lent_ops.proofs.PolygonLemmas.{frame_away, polygon_away}
use Rattle.lent_ops.specs.Points.{points_of}
use Rattle.lent_ops.specs.Forms.{are_angles, is_corner, is_form_in_range, is_pen, corner_of, pen_of, form_holds, form_pixels}

-- ---- bytes of the same pixels

module _ (s t : PixelSet) (same : (p : Point) → s p ≡ t p) where
  pub told_as : (bytes : List ℕ) → AreRegionBytes s bytes → AreRegionBytes t bytes
  told_as bytes b = (b.0, λ p. b.1 p ∙ same p, b.2)

  measured_as : (long : Bool) → IsMeasured s long → IsMeasured t long
  measured_as long m = (m.0, λ p. m.1 p ∙ same p, m.2)

  pub not_told_as : (e : Refusal) → IsNotTold s e → IsNotTold t e
  not_told_as e (inl long) = inl (long.0, measured_as true long.1)
  not_told_as e (inr fits) = inr (fits.0, measured_as false fits.1)

-- ---- pixels in range

-- the rectangle that a line lies in
line_rect : Point → Point → Pen → rect.Rect
line_rect a b pen =
    if has_size pen
    then record { left = int_min a.h b.h; top = int_min a.v b.v; right = int_max a.h b.h +ℤ pos pen.width; bottom = int_max a.v b.v +ℤ pos pen.height }
    else empty_rect

out_of_line : (a b : Point) (pen : Pen) (p : Point) → rect_holds (line_rect a b pen) p ≡ false → line_holds a b pen p ≡ false
unfolding line_rect
out_of_line a b pen p out = by_size (has_size pen) refl out
  where
    by_size : (s : Bool) → has_size pen ≡ s
        → rect_holds (if s then record { left = int_min a.h b.h; top = int_min a.v b.v; right = int_max a.h b.h +ℤ pos pen.width; bottom = int_max a.v b.v +ℤ pos pen.height } else empty_rect) p ≡ false
        → line_holds a b pen p ≡ false
    by_size true has out = line_outside a b pen p (int_min a.h b.h) (int_min a.v b.v) (int_max a.h b.h +ℤ pos pen.width) (int_max a.v b.v +ℤ pos pen.height) refl refl refl refl out
    by_size false none out = line_none a b pen p none

line_rect_in_range : (a b : Point) (pen : Pen) → pen_fits pen a ≡ true → pen_fits pen b ≡ true → is_in_range (line_rect a b pen) ≡ true
unfolding line_rect
line_rect_in_range a b pen at_a at_b = by_size (has_size pen) refl
  where
    by_size : (s : Bool) → has_size pen ≡ s
        → is_in_range (if s then record { left = int_min a.h b.h; top = int_min a.v b.v; right = int_max a.h b.h +ℤ pos pen.width; bottom = int_max a.v b.v +ℤ pos pen.height } else empty_rect) ≡ true
    by_size true has = in_range_from _ (sides_of_line a b pen has at_a at_b (int_min a.h b.h) (int_min a.v b.v) (int_max a.h b.h +ℤ pos pen.width) (int_max a.v b.v +ℤ pos pen.height) refl refl refl refl)
    by_size false none = refl

in_plane_of : (r : rect.Rect) (p : Point) → is_in_range r ≡ true → rect_holds r p ≡ true → in_plane p ≡ true
in_plane_of r p e has =
    let s = sides_in r e in
    let left_low = s.left_low in
    let right_high = s.right_high in
    let top_low = s.top_low in
    let bottom_high = s.bottom_high in
    let i = sides_of r p has in
    let left = i.left in
    let right = i.right in
    let top = i.top in
    let bottom = i.bottom in
    λ k. coordinate_from p.h (omega (arith, ints)) (omega (arith, ints)) k && coordinate_from p.v (omega (arith, ints)) (omega (arith, ints)) k

-- a pixel out of range lies in no rectangle in range, in no shape of one, and on no line
module _ (p : Point) (out : in_plane p ≡ false) where
  out_of_rect : (r : rect.Rect) → is_in_range r ≡ true → rect_holds r p ≡ false
  out_of_rect r e = elim (cases_Bool (rect_holds r p)) [
    | inl has ↦ let within = in_plane_of r p e has in absurd (cc)
    | inr none ↦ none
  ]

  out_of_round : (r : rect.Rect) (c : Corner) → is_in_range r ≡ true → round_holds r c p ≡ false
  out_of_round r c e = outside_rect r c p (out_of_rect r e)

  out_of_frame : (r : rect.Rect) (c : Corner) (pen : Pen) → is_in_range r ≡ true → frame_holds r c pen p ≡ false
  out_of_frame r c pen e = no_frame r c pen p (out_of_round r c e)

  line_away : (pen : Pen) (a b : Point) → pen_fits pen a ≡ true → pen_fits pen b ≡ true → line_holds a b pen p ≡ false
  line_away pen a b at_a at_b = out_of_line a b pen p (out_of_rect (line_rect a b pen) (line_rect_in_range a b pen at_a at_b))

  form_away : (f : FormRef) → is_form_in_range f ≡ true → form_holds f p ≡ false
  form_away (Rect r) e = out_of_rect r e
  form_away (Round r c) e = out_of_round r (corner_of c) (and_parts (is_in_range r) (is_corner c) e).0
  form_away (Oval r) e = out_of_round r (oval_corner r) e
  form_away (FrameRect r n) e = out_of_frame r no_corner (pen_of n) (and_parts (is_in_range r) (is_pen n) e).0
  form_away (FrameRound r c n) e = out_of_frame r (corner_of c) (pen_of n) (and_parts (is_in_range r) (is_corner c && is_pen n) e).0
  form_away (FrameOval r n) e = out_of_frame r (oval_corner r) (pen_of n) (and_parts (is_in_range r) (is_pen n) e).0
  form_away (Arc r a) e = and_left (round_holds r (oval_corner r) p) (wedge_holds r a.start a.angle p) (out_of_round r (oval_corner r) (and_parts (is_in_range r) (are_angles a) e).0)
  form_away (FrameArc r a n) e =
      and_left (frame_holds r (oval_corner r) (pen_of n) p) (wedge_holds r a.start a.angle p)
      (out_of_frame r (oval_corner r) (pen_of n) (and_parts (is_in_range r) (are_angles a && is_pen n) e).0)
  form_away (Line a b n) e =
      let both = and_parts (pen_fits (pen_of n) a) (pen_fits (pen_of n) b) (and_parts (is_pen n) (pen_fits (pen_of n) a && pen_fits (pen_of n) b) e).1 in
      line_away (pen_of n) a b both.0 both.1
  form_away (Polygon bytes) e = polygon_away (points_of bytes) p e out
  form_away (FramePolygon bytes n) e =
      frame_away (pen_of n) p (line_away (pen_of n)) (points_of bytes) (and_parts (is_pen n) (list_all (pen_fits (pen_of n)) (points_of bytes)) e).1

form_in_plane : (f : FormRef) (p : Point) → is_form_in_range f ≡ true → (in_plane p && form_holds f p) ≡ form_holds f p
form_in_plane f p e = elim (cases_Bool (in_plane p)) [
  | inl within ↦ λ i. within i && form_holds f p
  | inr out ↦ let none = form_away p out f e in and_right (in_plane p) (form_holds f p) none ∙ sym none
]

-- a finite set that has the pixels of a form in range is that of its pixels
pub form_is : (f : FormRef) (g : Pixels) → is_form_in_range f ≡ true → ((p : Point) → holds g p ≡ form_holds f p) → g ≡ form_pixels f
form_is f g e same =
    same_holds g (form_pixels f) (λ p. same p ∙ sym (form_in_plane f p e) ∙ sym (test_holds (λ h v. form_holds f (record { h = h; v = v })) p))
