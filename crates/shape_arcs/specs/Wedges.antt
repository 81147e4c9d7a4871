-- Wedges of a rectangle, and arcs.
use Rattle.std.specs.Prelude.{true, ◌&&◌, ◌||◌, not, cond, ℤ, pos, neg_ℤ, ◌+ℤ◌, int_le, int_lt}
use Rattle.tb_geom.specs.declared.rect.Rect.{Rect}
use Rattle.tb_geom.specs.Points.{PixelSet}
use Rattle.shape_strips.specs.declared.pen.Pen.{Pen}
use Rattle.shape_strips.specs.Frames.{frame_holds}
use Rattle.shape_strips.specs.Rounds.{oval_corner, oval_holds}
use Rattle.shape_arcs.specs.Rays.{is_seen_from}

-- the pixels that are seen from a degree on, and not yet from another one on, up to half a turn further
abbrev pub narrow_wedge : Rect → ℤ → ℤ → PixelSet
narrow_wedge r from to p = is_seen_from r from p && not (is_seen_from r to p)

-- so too where it is further
abbrev pub broad_wedge : Rect → ℤ → ℤ → PixelSet
broad_wedge r from to p = is_seen_from r from p || not (is_seen_from r to p)

-- the wedge from a degree, so many degrees clockwise
abbrev pub clockwise : Rect → ℤ → ℤ → PixelSet
clockwise r start angle p = cond (int_le (pos 360) angle) true
    (cond (int_le angle (pos 180)) (narrow_wedge r start (start +ℤ angle) p) (broad_wedge r start (start +ℤ angle) p))

-- the wedge from a degree over an angle, which goes back where it is below 0
unfoldable pub wedge_holds : Rect → ℤ → ℤ → PixelSet
wedge_holds r start angle p = cond (int_lt angle (pos 0))
    (clockwise r (start +ℤ angle) (neg_ℤ angle) p) (clockwise r start angle p)

-- the oval that touches the sides of the rectangle, within the wedge
abbrev pub arc_holds : Rect → ℤ → ℤ → PixelSet
arc_holds r start angle p = oval_holds r p && wedge_holds r start angle p

-- and its frame
abbrev pub frame_arc_holds : Rect → ℤ → ℤ → Pen → PixelSet
frame_arc_holds r start angle pen p = frame_holds r (oval_corner r) pen p && wedge_holds r start angle p
