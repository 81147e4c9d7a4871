-- What pictures are copied from.
use Rattle.std.specs.Prelude.{◌≡◌, true, pos}
use Rattle.tb_geom.specs.declared.point.Point.{Point}
use Rattle.tb_geom.specs.Points.{PixelSet}
use Rattle.tb_geom.specs.Rects.{between}
use Rattle.std.specs.Prelude.{◌&&◌}

-- the pixels of a source have coordinates in 0..65534
abbrev pub IsNearSource : PixelSet → Type 0
IsNearSource s = (p : Point) → s p ≡ true → (between (pos 0) p.h (pos 65535) && between (pos 0) p.v (pos 65535)) ≡ true
