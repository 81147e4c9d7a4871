-- What a shift within one map leaves.
use Rattle.std.specs.Prelude.{Bool, ◌&&◌, ◌||◌, pos, int_lt}
use Rattle.std.specs.Ordering.{int_eq}
use Rattle.tb_geom.specs.declared.point.Point.{Point}
use Rattle.tb_geom.specs.Points.{PixelSet, minus}
use Rattle.bit_map.specs.Bits.{Bits, on_map, bit}

-- the pixels of the set whose source, the pixel that the distance leads here from, the map holds
abbrev pub shift_holds : Bits → PixelSet → Point → PixelSet
shift_holds m s d p = s p && on_map m (minus p d)

-- the old bit of the source
abbrev pub shifted : Bits → Point → Point → Bool → Bool
shifted m d p old = bit m (minus p d)

-- whether the distance leads to pixels that come later in the order of a screen's scan: down, or right in one row
abbrev pub is_onward : Point → Bool
is_onward d = int_lt (pos 0) d.v || (int_eq d.v (pos 0) && int_lt (pos 0) d.h)
