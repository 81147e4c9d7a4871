-- The whole screen painted from nothing.
use Rattle.std.specs.Prelude.{◌≡◌, ℕ, ℤ, pos, true, List}
use Rattle.tb_geom.specs.declared.point.Point.{Point}
use Rattle.bit_map.specs.Bits.{Bits, bit, on_map}
use Rattle.overlay.specs.Outlines.{outlined}
use Rattle.overlay.specs.Overlays.{shown_bit}
use Rattle.desk_call.specs.declared.activity.Activity.{Activity}
use Rattle.desk_call.specs.Outlines.{outline_of}
use Rattle.menu_mgr.specs.MenuDesks.{MenuRecord}
use Rattle.menu_mgr.specs.Pulling.{pulled_of}
use Rattle.desk_toolbox.specs.Fronts.{screen_scratch}
use Rattle.desk_toolbox.specs.ToolboxStates.{ToolboxState}
use Rattle.scratch_paint.specs.Paints.{IsPaintedSo}

-- the map has the size of the screen
pub record IsAsLarge (s : ToolboxState) (m : Bits) : Type 0 where
  pub wide : pos m.width ≡ s.desk.windows.desk.width
  pub high : pos m.height ≡ s.desk.windows.desk.height

-- a base image was painted over with what is in front of it: the pulled menu, or the outline of a window
pub record IsFrontPainted (font : List ℕ) (bar : ℤ) (activity : Activity) (menus : List MenuRecord) (base new : Bits) : Type 0 where
  pub width : new.width ≡ base.width
  pub height : new.height ≡ base.height
  pub pixels : (p : Point) → on_map new p ≡ true
      → bit new p ≡ outlined bar (outline_of activity) (shown_bit font (pulled_of activity menus) (bit base)) p

-- the map is what painting the whole screen from nothing gives, with the menu that is pulled down
abbrev pub IsPaintedScreen : ToolboxState → Bits → Type 0
IsPaintedScreen s m = IsPaintedSo s.desk.windows.desk (screen_scratch s) m
