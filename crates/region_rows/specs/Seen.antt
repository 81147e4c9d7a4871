-- Regions as they are seen from above, or turned by half a turn, so that the last row comes first and the last column first in it.
use Rattle.std.specs.Prelude.{Bool, true, false, List, map, reverse, ℤ, negsuc, ◌-ℤ◌}
use Rattle.tb_geom.specs.declared.point.Point.{Point}
use Rattle.tb_geom.specs.declared.rect.Rect.{Rect}
use Rattle.tb_geom.specs.Points.{PixelSet}
use Rattle.region_rows.specs.Rows.{EdgeRow}

-- a column or row of points
abbrev pub sign : Bool → ℤ → ℤ
sign false x = x
sign true x = negsuc 0 -ℤ x

-- a row of points
abbrev pub signed_row : Bool → EdgeRow → EdgeRow
signed_row up row = (sign up row.0, map (sign up) row.1)

-- rows in the order in which they come
abbrev pub ordered : Bool → List EdgeRow → List EdgeRow
ordered false rows = rows
ordered true rows = reverse rows

-- all rows of points
abbrev pub seen : Bool → List EdgeRow → List EdgeRow
seen up rows = map (signed_row up) (ordered up rows)

-- the pixel that is seen at a point
abbrev pub seen_point : Bool → Point → Point
seen_point false p = p
seen_point true p = record { h = negsuc 1 -ℤ p.h; v = negsuc 1 -ℤ p.v }

-- the pixels of a set that are seen
abbrev pub seen_set : Bool → PixelSet → PixelSet
seen_set up s p = s (seen_point up p)

-- a rectangle of pixels
abbrev pub seen_rect : Bool → Rect → Rect
seen_rect false r = r
seen_rect true r = record { left = negsuc 0 -ℤ r.right; top = negsuc 0 -ℤ r.bottom; right = negsuc 0 -ℤ r.left; bottom = negsuc 0 -ℤ r.top }
