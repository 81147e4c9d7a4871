-- What is drawn of a window's frame, and of what of its content is new.
use Rattle.std.specs.Prelude.{◌≡◌, ℕ, Bool, true, false, if◌then◌else◌, List}
use Rattle.tb_geom.specs.declared.point.Point.{Point}
use Rattle.tb_geom.specs.Points.{minus}
use Rattle.tb_geom.specs.Pixels.{Pixels, holds}
use Rattle.tb_geom.specs.Rects.{in_plane, is_in_range, moved_rect}
use Rattle.bit_map.specs.Bits.{Bits}
use Rattle.bit_blit.specs.Draws.{Draws}
use Rattle.def_iface.specs.declared.size.Size.{Size}
use Rattle.def_iface.specs.declared.window_def.Stage.TheVariants.{Live}
use Rattle.def_iface.specs.WindowMeaning.{WindowDefinition, is_fitting}
use Rattle.def_iface.specs.WindowNews.{no_news}
use Rattle.window_paint.specs.Moves.{everywhere}

-- a window of this place, size and definition can be drawn: its place is a point, its structure lies in the range of
-- coordinates there, and its definition is live and was told the size, which fits it
pub record IsPlaced (place : Point) (size : Size) (d : WindowDefinition) : Type 0 where
  pub placed : in_plane place ≡ true
  pub live : d.stage ≡ Live
  pub told : d.size ≡ size
  pub fits : is_fitting d size ≡ true
  pub inside : is_in_range (moved_rect (d.bounds size) place.h place.v) ≡ true

-- a bit of the screen, painted: the frame's pixels are drawn, over white where content is new
abbrev pub painted_bit : List ℕ → WindowDefinition → Point → (new frame : Pixels) → Point → Bool → Bool
painted_bit font d place new frame p value =
    if holds frame p then d.picture no_news font (minus p place) else (if holds new p then false else value)

-- it was painted so
abbrev pub IsPainted : List ℕ → WindowDefinition → Point → (new frame : Pixels) → Bits → Bits → Type 0
IsPainted font d place new frame = Draws everywhere (painted_bit font d place new frame)
