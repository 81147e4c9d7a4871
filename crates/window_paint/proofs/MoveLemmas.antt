-- Pixels that move, and what comes into sight.
use Rattle.std.proofs.Common.{if◌then◌else◌, pos, ◌∙◌}
use Rattle.tb_geom.specs.declared.point.Point.{Point}
use Rattle.tb_geom.specs.Points.{minus}
use Rattle.tb_geom.specs.Pixels.{Pixels, holds}
use Rattle.bit_map.specs.declared.mode.Mode.TheVariants.{Copy}
use Rattle.bit_map.specs.Bits.{Bits}
use Rattle.bit_map.specs.Modes.{mode_bit}
use Rattle.bit_map.specs.Patterns.{pattern_bit}
use Rattle.bit_map.proofs.BitsLemmas.{on_map-same}
use Rattle.bit_blit.specs.Draws.{Draws}
use Rattle.bit_blit.specs.Shifts.{shift_holds, shifted}
use Rattle.window_paint.specs.Moves.{IsScrollPainted}
use Rattle.window_paint.proofs.WhiteLemmas.{white, pattern_bit-white}

-- a scroll is drawn by moving what arrives, and filling what comes into sight
pub scroll_painted : (arriving exposed : Pixels) (by : Point) (old moved new : Bits)
    → Draws (shift_holds old (holds arriving) by) (shifted old by) old moved
    → Draws (holds exposed) (λ p d. mode_bit Copy (pattern_bit white (minus p (record { h = pos 0; v = pos 0 }))) d) moved new
    → IsScrollPainted arriving exposed by old new
scroll_painted arriving exposed by old moved new first second = record {
  pixels = λ p on.
      second.pixels p (on_map-same old moved p first.width first.height ∙ on)
      ∙ (λ i. if holds exposed p then pattern_bit-white (minus p (record { h = pos 0; v = pos 0 })) i else first.pixels p on i);
  width = second.width ∙ first.width;
  height = second.height ∙ first.height;
}
