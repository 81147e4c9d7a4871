-- A region moved by a distance, and whether it stays in range.
use Rattle.std.specs.Prelude.{◌≡◌, Bool, true, false, ◌&&◌, List, map, pos, negsuc, ◌+ℤ◌}
use Rattle.tb_geom.specs.declared.point.Point.{Point}
use Rattle.tb_geom.specs.Points.{plus}
use Rattle.tb_geom.specs.Rects.{between}
use Rattle.tb_geom.specs.Pixels.{Pixels, holds}
use Rattle.region_rows.specs.Rows.{EdgeRow}

-- whether the pixel at p has all four sides in -16384..16383
abbrev pub is_pixel_in_range : Point → Bool
is_pixel_in_range p = between (negsuc 16383) p.h (pos 16383) && between (negsuc 16383) p.v (pos 16383)

-- each pixel of the set, moved by d, is in range
abbrev pub StaysInRange : Pixels → Point → Type 0
StaysInRange s d = (p : Point) → holds s p ≡ true → is_pixel_in_range (plus p d) ≡ true

-- some pixel of the set, moved by d, is not
abbrev pub LeavesRange : Pixels → Point → Type 0
LeavesRange s d = (p : Point) × (holds s p ≡ true) × (is_pixel_in_range (plus p d) ≡ false)

-- a row moved by d
abbrev pub moved_row : EdgeRow → Point → EdgeRow
moved_row row d = (row.0 +ℤ d.v, map (λ x. x +ℤ d.h) row.1)

-- the rows, each moved by d
abbrev pub moved_rows : List EdgeRow → Point → List EdgeRow
moved_rows rows d = map (λ row. moved_row row d) rows
