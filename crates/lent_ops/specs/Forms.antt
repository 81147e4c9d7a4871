-- Shapes that calls carry: their numbers and bytes, and the pixels that they mean.
use Rattle.std.specs.Prelude.{ℤ, Bool, true, false, ◌&&◌, pos, negsuc, int_le, nat_abs}
use Rattle.std.specs.List.{list_all}
use Rattle.tb_geom.specs.declared.point.Point.{Point}
use Rattle.tb_geom.specs.Points.{PixelSet}
use Rattle.tb_geom.specs.Pixels.{Pixels, pixels_where}
use Rattle.tb_geom.specs.Rects.{is_in_range, rect_holds}
use Rattle.shape_strips.specs.declared.corner.Corner.{Corner}
use Rattle.shape_strips.specs.declared.pen.Pen.{Pen}
use Rattle.shape_strips.specs.Rounds.{no_corner, oval_corner, oval_holds, round_holds}
use Rattle.shape_strips.specs.Frames.{frame_holds}
use Rattle.shape_strips.specs.Lines.{line_holds, pen_fits}
use Rattle.shape_region.specs.Polygons.{are_in_plane, frame_polygon_holds, polygon_holds}
use Rattle.shape_arcs.specs.Wedges.{arc_holds, frame_arc_holds}
use Rattle.lent_ops.specs.declared.form_ref.AnglesRef.{AnglesRef}
use Rattle.lent_ops.specs.declared.form_ref.CornerRef.{CornerRef}
use Rattle.lent_ops.specs.declared.form_ref.PenRef.{PenRef}
use Rattle.lent_ops.specs.declared.form_ref.FormRef.{FormRef}
use Rattle.lent_ops.specs.declared.form_ref.FormRef.TheVariants.{Rect, Round, Oval, FrameRect, FrameRound, FrameOval, Arc, FrameArc, Line, Polygon, FramePolygon}
use Rattle.lent_ops.specs.Points.{are_many, are_points, points_of}

-- a side of a corner: 0 to 32767
abbrev pub is_corner_side : ℤ → Bool
is_corner_side n = int_le (pos 0) n && int_le n (pos 32767)

-- a side of a pen: 0 to 1024
abbrev pub is_pen_side : ℤ → Bool
is_pen_side n = int_le (pos 0) n && int_le n (pos 1024)

abbrev pub is_corner : CornerRef → Bool
is_corner c = is_corner_side c.width && is_corner_side c.height

abbrev pub is_pen : PenRef → Bool
is_pen p = is_pen_side p.width && is_pen_side p.height

-- a number of degrees: -32768 to 32767
abbrev pub is_degree : ℤ → Bool
is_degree n = int_le (negsuc 32767) n && int_le n (pos 32767)

abbrev pub are_angles : AnglesRef → Bool
are_angles a = is_degree a.start && is_degree a.angle

-- the corner and the pen that given ones are
abbrev pub corner_of : CornerRef → Corner
corner_of c = record { width = nat_abs c.width; height = nat_abs c.height }

abbrev pub pen_of : PenRef → Pen
pen_of p = record { width = nat_abs p.width; height = nat_abs p.height }

-- the pen is one, and fits at both ends of a line
abbrev pub is_line_in_range : Point → Point → PenRef → Bool
is_line_in_range a b p = is_pen p && (pen_fits (pen_of p) a && pen_fits (pen_of p) b)

-- the bytes of a polygon are those of points
abbrev pub has_points : FormRef → Bool
has_points (Polygon bytes) = are_points bytes
has_points (FramePolygon bytes p) = are_points bytes
has_points f = true

-- a polygon has more than 1024 points
abbrev pub is_form_long : FormRef → Bool
is_form_long (Polygon bytes) = are_many bytes
is_form_long (FramePolygon bytes p) = are_many bytes
is_form_long f = false

-- each number of a form lies in its range, and each pixel of a line and of a framed polygon in -16384..16382
abbrev pub is_form_in_range : FormRef → Bool
is_form_in_range (Rect r) = is_in_range r
is_form_in_range (Round r c) = is_in_range r && is_corner c
is_form_in_range (Oval r) = is_in_range r
is_form_in_range (FrameRect r p) = is_in_range r && is_pen p
is_form_in_range (FrameRound r c p) = is_in_range r && (is_corner c && is_pen p)
is_form_in_range (FrameOval r p) = is_in_range r && is_pen p
is_form_in_range (Arc r a) = is_in_range r && are_angles a
is_form_in_range (FrameArc r a p) = is_in_range r && (are_angles a && is_pen p)
is_form_in_range (Line a b p) = is_line_in_range a b p
is_form_in_range (Polygon bytes) = are_in_plane (points_of bytes)
is_form_in_range (FramePolygon bytes p) = is_pen p && list_all (pen_fits (pen_of p)) (points_of bytes)

-- the pixels of a form
abbrev pub form_holds : FormRef → PixelSet
form_holds (Rect r) = rect_holds r
form_holds (Round r c) = round_holds r (corner_of c)
form_holds (Oval r) = oval_holds r
form_holds (FrameRect r p) = frame_holds r no_corner (pen_of p)
form_holds (FrameRound r c p) = frame_holds r (corner_of c) (pen_of p)
form_holds (FrameOval r p) = frame_holds r (oval_corner r) (pen_of p)
form_holds (Arc r a) = arc_holds r a.start a.angle
form_holds (FrameArc r a p) = frame_arc_holds r a.start a.angle (pen_of p)
form_holds (Line a b p) = line_holds a b (pen_of p)
form_holds (Polygon bytes) = polygon_holds (points_of bytes)
form_holds (FramePolygon bytes p) = frame_polygon_holds (points_of bytes) (pen_of p)

-- the finite set of them
abbrev pub form_pixels : FormRef → Pixels
form_pixels f = pixels_where (λ h v. form_holds f (record { h = h; v = v }))
