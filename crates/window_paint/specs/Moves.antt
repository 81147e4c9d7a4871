-- Pixels that move on the screen.
use Rattle.std.specs.Prelude.{true, false, ◌&&◌, if◌then◌else◌, Option, None, Some}
use Rattle.tb_geom.specs.declared.point.Point.{Point}
use Rattle.tb_geom.specs.Points.{PixelSet, minus}
use Rattle.tb_geom.specs.Pixels.{Pixels, holds}
use Rattle.bit_map.specs.Bits.{Bits, on_map, bit}
use Rattle.bit_blit.specs.Draws.{Draws}

abbrev pub everywhere : PixelSet
everywhere p = true

-- the bit after pixels moved
abbrev pub moved_bit : Pixels → Option Point → Bits → PixelSet
moved_bit arriving None old p = bit old p
moved_bit arriving (Some by) old p = if holds arriving p && on_map old (minus p by) then bit old (minus p by) else bit old p

-- pixels moved
abbrev pub IsMoved : Pixels → Option Point → Bits → Bits → Type 0
IsMoved arriving by old = Draws everywhere (λ p value. moved_bit arriving by old p) old

-- the pixels moved so far, and what came into sight became white
abbrev pub IsScrollPainted : (arriving exposed : Pixels) → Point → Bits → Bits → Type 0
IsScrollPainted arriving exposed by old = Draws everywhere (λ p value. if holds exposed p then false else moved_bit arriving (Some by) old p) old
