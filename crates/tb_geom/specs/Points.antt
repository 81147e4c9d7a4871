-- Points of the plane, and sets of pixels.
use Rattle.std.specs.Prelude.{Bool, ◌+ℤ◌, ◌-ℤ◌}
use Rattle.tb_geom.specs.declared.point.Point.{Point}

-- a set of pixels: whether it has the pixel at each point
abbrev pub PixelSet : Type 0
PixelSet = Point → Bool

-- the point p, moved by d
abbrev pub plus : Point → Point → Point
plus p d = record { h = p.h +ℤ d.h; v = p.v +ℤ d.v }

-- the point that, moved by d, is p
abbrev pub minus : Point → Point → Point
minus p d = record { h = p.h -ℤ d.h; v = p.v -ℤ d.v }
