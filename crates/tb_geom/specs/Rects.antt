-- The pixels of a rectangle, and the range of coordinates.
use Rattle.std.specs.Prelude.{◌≡◌, true, Bool, ◌&&◌, ◌||◌, ℤ, pos, negsuc, int_le, int_lt, ◌+ℤ◌}
use Rattle.std.specs.Int.{int_min, int_max}
use Rattle.tb_geom.specs.declared.point.Point.{Point}
use Rattle.tb_geom.specs.declared.rect.Rect.{Rect}
use Rattle.tb_geom.specs.Points.{PixelSet}

-- low <= x < high
abbrev pub between : ℤ → ℤ → ℤ → Bool
between low x high = int_le low x && int_lt x high

-- whether the rectangle encloses the pixel at p
abbrev pub rect_holds : Rect → PixelSet
rect_holds r p = between r.left p.h r.right && between r.top p.v r.bottom

-- the smallest rectangle that encloses the set
pub record IsBoxOf (r : Rect) (s : PixelSet) : Type 0 where
  pub holds : (p : Point) → s p ≡ true → rect_holds r p ≡ true
  pub smallest : (q : Rect) → ((p : Point) → s p ≡ true → rect_holds q p ≡ true) → (p : Point) → rect_holds r p ≡ true → rect_holds q p ≡ true

-- whether it encloses none
abbrev pub is_empty_rect : Rect → Bool
is_empty_rect r = int_le r.right r.left || int_le r.bottom r.top

-- the empty rectangle with all sides 0
abbrev pub empty_rect : Rect
empty_rect = record { left = pos 0; top = pos 0; right = pos 0; bottom = pos 0 }

-- whether a coordinate lies in -16384..16383
abbrev pub is_coordinate : ℤ → Bool
is_coordinate z = int_le (negsuc 16383) z && int_le z (pos 16383)

-- whether both of a point's do
abbrev pub in_plane : PixelSet
in_plane p = is_coordinate p.h && is_coordinate p.v

-- whether each side of the rectangle does
abbrev pub is_in_range : Rect → Bool
is_in_range r = is_coordinate r.left && (is_coordinate r.top && (is_coordinate r.right && is_coordinate r.bottom))

-- the rectangle moved by dh columns and dv rows
abbrev pub moved_rect : Rect → ℤ → ℤ → Rect
moved_rect r dh dv = record { left = r.left +ℤ dh; top = r.top +ℤ dv; right = r.right +ℤ dh; bottom = r.bottom +ℤ dv }

-- the rectangle of the greater first sides and the smaller last ones
abbrev pub shared_rect : Rect → Rect → Rect
shared_rect a b = record { left = int_max a.left b.left; top = int_max a.top b.top; right = int_min a.right b.right; bottom = int_min a.bottom b.bottom }

-- the rectangle of the smaller first sides and the greater last ones
abbrev pub rect_around : Rect → Rect → Rect
rect_around a b = record { left = int_min a.left b.left; top = int_min a.top b.top; right = int_max a.right b.right; bottom = int_max a.bottom b.bottom }
