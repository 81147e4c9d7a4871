-- Rectangles with rounded corners in looks.
use Rattle.std.specs.Prelude.{true, false, ◌&&◌, if◌then◌else◌}
use Rattle.tb_geom.specs.declared.rect.Rect.{Rect}
use Rattle.tb_geom.specs.Points.{PixelSet}
use Rattle.tb_geom.specs.Rects.{is_in_range}
use Rattle.shape_strips.specs.declared.corner.Corner.{Corner}
use Rattle.shape_strips.specs.declared.pen.Pen.{Pen}
use Rattle.shape_strips.specs.Rounds.{round_holds}
use Rattle.shape_strips.specs.Frames.{inside_holds}
use Rattle.looks.specs.declared.rounded.Rounded.{Rounded}

-- the pen of one pixel
abbrev pub one_pixel : Pen
one_pixel = record { width = 1; height = 1 }

-- its pixels: all, or those that a frame of one pixel leaves; none out of range
unfoldable pub rounded_holds : Rounded → PixelSet
rounded_holds r p = is_in_range r.rect && (if r.inside then inside_holds r.rect r.corner one_pixel p else round_holds r.rect r.corner p)

-- all of a rectangle with rounded corners
abbrev pub rounded : Rect → Corner → Rounded
rounded r c = record { rect = r; corner = c; inside = false }

-- what a frame of one pixel leaves of it
abbrev pub rounded_inside : Rect → Corner → Rounded
rounded_inside r c = record { rect = r; corner = c; inside = true }
