-- Sizes, and the rectangle of a size.
use Rattle.std.specs.Prelude.{Bool, ◌&&◌, ℤ, pos, int_le}
use Rattle.tb_geom.specs.declared.rect.Rect.{Rect}
use Rattle.def_iface.specs.declared.size.Size.{Size}

-- whether a width or a height lies in 1..16383
abbrev pub is_extent : ℤ → Bool
is_extent n = int_le (pos 1) n && int_le n (pos 16383)

-- whether both do
abbrev pub is_size : Size → Bool
is_size s = is_extent s.width && is_extent s.height

-- the rectangle of this size at 0 0
abbrev pub rect_of : Size → Rect
rect_of s = record { left = pos 0; top = pos 0; right = s.width; bottom = s.height }
