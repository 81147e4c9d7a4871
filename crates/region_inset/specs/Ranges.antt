-- How far columns and rows lie in range.
use Rattle.std.specs.Prelude.{◌≡◌, true, ℤ, pos, negsuc, ◌≤ℤ◌}
use Rattle.tb_geom.specs.declared.point.Point.{Point}
use Rattle.tb_geom.specs.Points.{PixelSet}
use Rattle.tb_geom.specs.Rects.{between}

-- each pixel of the set has its left and right side in -16384..16383
abbrev pub LiesAcross : PixelSet → Type 0
LiesAcross s = (p : Point) → s p ≡ true → between (negsuc 16383) p.h (pos 16383) ≡ true

-- a row of the range, or one beside it
abbrev pub IsLevel : ℤ → Type 0
IsLevel v = (negsuc 16384 ≤ℤ v) × (v ≤ℤ pos 16383)
