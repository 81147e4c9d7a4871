-- What a text makes of pixels.
use Rattle.std.specs.Prelude.{ℕ, Bool, true, ◌&&◌, if◌then◌else◌, List, Option}
use Rattle.tb_geom.specs.declared.point.Point.{Point}
use Rattle.tb_geom.specs.Pixels.{Pixels}
use Rattle.bit_map.specs.declared.mode.Mode.{Mode}
use Rattle.bit_map.specs.Modes.{mode_bit}
use Rattle.strike_font.specs.Text.{text_holds}
use Rattle.draw_port.specs.Ops.{clip_holds}

-- what a text that is put down by a mode within a clip makes of the bit of a pixel
abbrev pub put_value : List ℕ → Option Pixels → List ℕ → Point → Mode → Point → Bool → Bool
put_value font clip text pen mode p old = if clip_holds clip p && text_holds font text pen p then mode_bit mode true old else old
