-- A map of bits, point by point.
use Rattle.std.specs.Prelude.{ℕ, ◌+◌, ◌*◌, ℤ, pos, negsuc, Bool, false, ◌&&◌, if◌then◌else◌, List, nat_lt, nat_abs, int_le, slice_index_or}
use Rattle.std.specs.Ordering.{int_eq}
use Rattle.tb_geom.specs.declared.point.Point.{Point}
use Rattle.tb_geom.specs.declared.rect.Rect.{Rect}
use Rattle.tb_geom.specs.Points.{PixelSet}
use Rattle.tb_geom.specs.Rects.{between}

-- the bits of a map row by row, the top row first, where black is true; and how often each of these pixels was written
pub record Bits : Type 0 where
  pub width : ℕ
  pub height : ℕ
  pub black : List Bool
  pub counts : List ℕ

-- whether a number is one of 0 .. limit - 1
abbrev pub is_below : ℕ → ℤ → Bool
is_below limit (pos n) = nat_lt n limit
is_below limit (negsuc n) = false

-- whether the map has the pixel at a point
unfoldable pub on_map : Bits → PixelSet
on_map m p = is_below m.width p.h && is_below m.height p.v

-- the bit at a point of the map; off the map it is white
unfoldable pub bit : Bits → PixelSet
bit m p = on_map m p && slice_index_or m.black (nat_abs p.v * m.width + nat_abs p.h) false

-- how often the pixel at a point of the map was written; off the map it never was
unfoldable pub count : Bits → Point → ℕ
count m p = if on_map m p then slice_index_or m.counts (nat_abs p.v * m.width + nat_abs p.h) 0 else 0

-- whether p is the point q
abbrev pub is_point : Point → PixelSet
is_point q p = int_eq p.h q.h && int_eq p.v q.v

-- the pixels of the row v from the column left up to the column right
abbrev pub in_row : ℤ → ℤ → ℤ → PixelSet
in_row v left right p = int_eq v p.v && between left p.h right

-- the rectangle of the map's pixels
abbrev pub bounds_of : Bits → Rect
bounds_of m = record { left = pos 0; top = pos 0; right = pos m.width; bottom = pos m.height }

-- whether a number may be a side of a map: 0 .. 32767
abbrev pub is_side : ℤ → Bool
is_side n = int_le (pos 0) n && int_le n (pos 32767)
