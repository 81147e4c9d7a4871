-- Frames of round shapes, drawn by a pen within the shape, and the insides that they leave.
use Rattle.std.specs.Prelude.{◌&&◌, not, Bool, nat_lt, ◌-◌, ◌*◌, pos, ◌+ℤ◌, ◌-ℤ◌}
use Rattle.tb_geom.specs.declared.rect.Rect.{Rect}
use Rattle.tb_geom.specs.Points.{PixelSet}
use Rattle.shape_strips.specs.declared.corner.Corner.{Corner}
use Rattle.shape_strips.specs.declared.pen.Pen.{Pen}
use Rattle.shape_strips.specs.Rounds.{round_holds}

-- a rectangle less a pen's width on the left and on the right, and a pen's height above and below
abbrev pub inset_rect : Rect → Pen → Rect
inset_rect r pen = record {
  left = r.left +ℤ pos pen.width;
  top = r.top +ℤ pos pen.height;
  right = r.right -ℤ pos pen.width;
  bottom = r.bottom -ℤ pos pen.height;
}

-- the corners that are left of it, none where the pen is as large
abbrev pub inset_corner : Corner → Pen → Corner
inset_corner c pen = record { width = c.width - 2 * pen.width; height = c.height - 2 * pen.height }

-- whether a set has a pixel and the four beside it
abbrev pub surrounds : PixelSet → PixelSet
surrounds s p =
    s p && ((s (record { h = p.h -ℤ pos 1; v = p.v }) && s (record { h = p.h +ℤ pos 1; v = p.v }))
    && (s (record { h = p.h; v = p.v -ℤ pos 1 }) && s (record { h = p.h; v = p.v +ℤ pos 1 })))

-- what a pen leaves of a round shape: the pixels of the smaller one that the shape surrounds
abbrev pub inside_holds : Rect → Corner → Pen → PixelSet
inside_holds r c pen p = round_holds (inset_rect r pen) (inset_corner c pen) p && surrounds (round_holds r c) p

-- whether a pen draws anything
abbrev pub has_size : Pen → Bool
has_size pen = nat_lt 0 pen.width && nat_lt 0 pen.height

-- the frame of a round shape: the shape less its inside; a pen without width or height draws nothing
abbrev pub frame_holds : Rect → Corner → Pen → PixelSet
frame_holds r c pen p = has_size pen && (round_holds r c p && not (inside_holds r c pen p))
