-- What the screen shows while a gray outline is shown: the base image, inverted along the outline's lines where gray is black.
use Rattle.std.specs.Prelude.{◌≡◌, ℤ, int_lt, true, not, ◌&&◌, if◌then◌else◌, List}
use Rattle.tb_geom.specs.declared.point.Point.{Point}
use Rattle.tb_geom.specs.declared.rect.Rect.{Rect}
use Rattle.tb_geom.specs.Points.{PixelSet}
use Rattle.bit_map.specs.Bits.{Bits, on_map, bit}
use Rattle.bit_map.specs.Modes.{xor_bit}
use Rattle.bit_map.specs.Patterns.{pattern_bit, gray}
use Rattle.def_iface.specs.Lines.{line_holds}

-- the pixel lies on one of the lines, and below the menu bar, which has so many rows
abbrev pub outline_holds : ℤ → List Rect → PixelSet
outline_holds bar lines p = line_holds lines p && not (int_lt p.v bar)

-- what the screen shows over a base image
abbrev pub outlined : ℤ → List Rect → PixelSet → PixelSet
outlined bar lines base p = if outline_holds bar lines p then xor_bit (pattern_bit gray p) (base p) else base p

-- the map in front shows that
pub record IsOutlined (bar : ℤ) (lines : List Rect) (base front : Bits) : Type 0 where
  pub width : front.width ≡ base.width
  pub height : front.height ≡ base.height
  pub pixels : (p : Point) → on_map front p ≡ true → bit front p ≡ outlined bar lines (bit base) p
