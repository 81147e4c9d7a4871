-- The rows of a rectangle, counted from the first, and the pixels of its diagonals in one.
use Rattle.std.specs.Prelude.{ℕ, pos, ◌-ℤ◌, Bool, ◌&&◌, int_lt}
use Rattle.std.specs.Ordering.{int_eq}
use Rattle.tb_geom.specs.declared.point.Point.{Point}
use Rattle.tb_geom.specs.declared.rect.Rect.{Rect}
use Rattle.tb_geom.specs.Rects.{rect_holds}

-- the pixel lies in row k
abbrev pub is_row : Rect → ℕ → Point → Bool
is_row r k p = int_eq (p.v -ℤ r.top) (pos k)

-- or in one above it
abbrev pub is_before : Rect → ℕ → Point → Bool
is_before r k p = int_lt (p.v -ℤ r.top) (pos k)

-- the pixel of row k on the diagonal down from the first column
abbrev pub falls : Rect → ℕ → Point → Bool
falls r k p = rect_holds r p && (int_eq (p.h -ℤ r.left) (pos k) && is_row r k p)

-- and on that down from the last column
abbrev pub rises : Rect → ℕ → Point → Bool
rises r k p = rect_holds r p && (int_eq (r.right -ℤ pos 1 -ℤ p.h) (pos k) && is_row r k p)
