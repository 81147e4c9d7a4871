-- Round shapes: rectangles whose corners are quarters of an oval.
use Rattle.std.specs.Prelude.{ℕ, ◌&&◌, min, ℤ, pos, ◌+ℤ◌}
use Rattle.tb_geom.specs.declared.rect.Rect.{Rect}
use Rattle.tb_geom.specs.Points.{PixelSet}
use Rattle.tb_geom.specs.Rects.{rect_holds}
use Rattle.region_rows.specs.Counts.{count_to}
use Rattle.shape_strips.specs.declared.corner.Corner.{Corner}
use Rattle.shape_strips.specs.Ovals.{in_oval, away}

-- the size of the oval of the corners, no wider and no higher than the rectangle
abbrev pub fitted : Rect → Corner → Corner
fitted r c = record { width = min c.width (count_to r.left r.right); height = min c.height (count_to r.top r.bottom) }

-- how far, in half pixels, the centre of a pixel in column h lies beside the middle of its corner's oval; 0 between
-- the corners
abbrev pub across : Rect → Corner → ℤ → ℕ
across r c h = away c.width (count_to r.left h) (count_to (h +ℤ pos 1) r.right)

-- and in row v above or below that middle
abbrev pub down : Rect → Corner → ℤ → ℕ
down r c v = away c.height (count_to r.top v) (count_to (v +ℤ pos 1) r.bottom)

-- the pixels of a rectangle whose centres lie in the oval of a corner, or between the corners
unfoldable pub round_holds : Rect → Corner → PixelSet
round_holds r c p =
    let oval = fitted r c in
    rect_holds r p && in_oval oval.width oval.height (across r oval p.h) (down r oval p.v)

-- the corners of a plain rectangle
abbrev pub no_corner : Corner
no_corner = record { width = 0; height = 0 }

-- the corners that meet: quarters of the oval that touches the four sides of the rectangle
abbrev pub oval_corner : Rect → Corner
oval_corner r = record { width = count_to r.left r.right; height = count_to r.top r.bottom }

-- the pixels of a rectangle whose centres lie in the oval that touches its four sides
abbrev pub oval_holds : Rect → PixelSet
oval_holds r = round_holds r (oval_corner r)
