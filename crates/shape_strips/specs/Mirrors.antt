-- Pixels of a rectangle on the other side of its middle.
use Rattle.std.specs.Prelude.{pos, ◌+ℤ◌, ◌-ℤ◌}
use Rattle.tb_geom.specs.declared.point.Point.{Point}
use Rattle.tb_geom.specs.declared.rect.Rect.{Rect}

-- as far from the right side as p is from the left one
abbrev pub mirrored_across : Rect → Point → Point
mirrored_across r p = record { h = (r.left +ℤ r.right) -ℤ (p.h +ℤ pos 1); v = p.v }

-- as far from the bottom as p is from the top
abbrev pub mirrored_down : Rect → Point → Point
mirrored_down r p = record { h = p.h; v = (r.top +ℤ r.bottom) -ℤ (p.v +ℤ pos 1) }

-- on the other side of the diagonal from the upper left corner: as far from the left side as p is from the top, and
-- from the top as p is from the left side
abbrev pub mirrored_diagonally : Rect → Point → Point
mirrored_diagonally r p = record { h = r.left +ℤ (p.v -ℤ r.top); v = r.top +ℤ (p.h -ℤ r.left) }
