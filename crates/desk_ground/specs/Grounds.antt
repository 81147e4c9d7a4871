-- A screen without windows.
use Rattle.std.specs.Prelude.{◌≡◌, true, false, if◌then◌else◌, ℤ, ◌-ℤ◌, pos}
use Rattle.std.specs.Ordering.{int_eq}
use Rattle.tb_geom.specs.declared.point.Point.{Point}
use Rattle.tb_geom.specs.declared.rect.Rect.{Rect}
use Rattle.tb_geom.specs.Pixels.{Pixels, holds}
use Rattle.tb_geom.specs.Rects.{rect_holds}
use Rattle.bit_map.specs.Bits.{Bits, on_map, bit}
use Rattle.bit_map.specs.Patterns.{pattern_bit}
use Rattle.desk_ground.specs.declared.ground.Ground.{Ground}
use Rattle.desk_ground.specs.Screens.{desktop as pattern}

-- the last row of a menu bar of so many rows, up to the column right and without it
abbrev pub last_row : ℤ → ℤ → Rect
last_row bar right = record { left = pos 0; top = bar -ℤ pos 1; right = right; bottom = bar }

-- the region has the pattern of the desktop, and the last row above it is black
pub record IsEmptyPainted (bar : ℤ) (region : Pixels) (old new : Bits) : Type 0 where
  pub pixels : (p : Point) → on_map old p ≡ true → bit new p ≡ (if int_eq p.v (bar -ℤ pos 1) then true else (if holds region p then pattern_bit pattern p else bit old p))
  pub width : new.width ≡ old.width
  pub height : new.height ≡ old.height

-- the rectangle below the menu bar
abbrev pub below : ℤ → ℤ → ℤ → Rect
below width height bar = record { left = pos 0; top = bar; right = width; bottom = height }

-- a screen without windows: below the menu bar it is gray, and the bar is white, but for its last row
pub record IsGround (width height bar : ℤ) (g : Ground) : Type 0 where
  pub wide : pos g.screen.width ≡ width
  pub high : pos g.screen.height ≡ height
  pub gray : (p : Point) → holds g.gray p ≡ rect_holds (below width height bar) p
  pub desktop : (p : Point) → holds g.desktop p ≡ holds g.gray p
  pub pixels : (p : Point) → on_map g.screen p ≡ true → bit g.screen p ≡ (if int_eq p.v (bar -ℤ pos 1) then true else (if holds g.gray p then pattern_bit pattern p else false))
