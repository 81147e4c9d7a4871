-- Edges of polygons: the pixels that they turn from out to in, or back.
use Rattle.std.specs.Prelude.{◌&&◌, ◌||◌, ℤ, pos, ◌+ℤ◌, ◌-ℤ◌, ◌*ℤ◌, int_le, int_lt}
use Rattle.tb_geom.specs.declared.point.Point.{Point}
use Rattle.tb_geom.specs.Points.{PixelSet}
use Rattle.tb_geom.specs.Rects.{between}

-- whether the edge down from a to b passes the middle of the pixel's row, at the pixel's centre or left of it: from a, the
-- centre lies 2 (p.h - a.h) + 1 half pixels to the right and 2 (p.v - a.v) + 1 half pixels down
unfoldable pub passes : Point → Point → PixelSet
passes a b p = between a.v p.v b.v
    && int_le (((pos 2 *ℤ (p.v -ℤ a.v)) +ℤ pos 1) *ℤ (b.h -ℤ a.h)) (((pos 2 *ℤ (p.h -ℤ a.h)) +ℤ pos 1) *ℤ (b.v -ℤ a.v))

-- whether an edge turns the pixel, whichever of its ends is the upper one
abbrev pub edge_turns : Point → Point → PixelSet
edge_turns a b p = passes a b p || passes b a p

-- the band of an edge: what it turns, up to a column
abbrev pub band_holds : Point → Point → ℤ → PixelSet
band_holds a b right p = edge_turns a b p && int_lt p.h right
