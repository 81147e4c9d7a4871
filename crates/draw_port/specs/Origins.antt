-- Where a canvas may have its 0 0.
use Rattle.std.specs.Prelude.{◌&&◌, pos, negsuc}
use Rattle.tb_geom.specs.Points.{PixelSet}
use Rattle.tb_geom.specs.Rects.{between}

-- the point's numbers lie in -1000000000 .. 999999999: seen from there, each pixel of a map is a point of 32 bits
abbrev pub is_near_origin : PixelSet
is_near_origin o = between (negsuc 999999999) o.h (pos 1000000000) && between (negsuc 999999999) o.v (pos 1000000000)
