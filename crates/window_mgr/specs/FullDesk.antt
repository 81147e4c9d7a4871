-- The whole desk as plain data, and its layers.
use Rattle.std.specs.Prelude.{ℕ, ◌<◌, ◌≤◌, List, ◌∷◌, [], Option, None, Some, map, ℤ}
use Rattle.tb_geom.specs.Points.{PixelSet}
use Rattle.bit_map.specs.Patterns.{pattern_bit}
use Rattle.desk_ground.specs.Screens.{desktop}
use Rattle.desk_ground.specs.declared.titles.MenuBar.{MenuBar}
use Rattle.desk_ground.specs.Bars.{bar_picture}
use Rattle.def_iface.specs.WindowSlots.{WindowSlot}
use Rattle.desk_layers.specs.declared.part.Part.{Part}
use Rattle.desk_layers.specs.Desk.{LayeredDesk}
use Rattle.desk_layers.specs.Change as plain
use Rattle.vis_update.specs.Records.{WindowRecord, Look, layered_window}

-- the desk: no region and no saved pixel
pub record FullDesk : Type 0 where
  pub width : ℤ
  pub height : ℤ
  -- the menu bar: how many rows it has, and its titles
  pub bar : MenuBar
  -- the bytes of the font of all texts
  pub font : List ℕ
  -- what controls and lists show, each in its window's own coordinates
  pub shows : Part → PixelSet
  -- from front to back
  pub windows : List WindowRecord
  pub active : Option ℕ
  -- the serial of the next window, if one is left
  pub next : Option ℕ
  -- what the stock holds
  pub stock : List WindowSlot

-- the desk, the pixels of its update sets, and the image on its screen
pub record FullState : Type 0 where
  pub desk : FullDesk
  pub stale : PixelSet
  pub image : PixelSet

-- how the desk looks
abbrev pub look_of : FullDesk → Look
look_of d = record { font = d.font; shows = d.shows }

-- the desk as layers
abbrev pub layered_desk : FullDesk → LayeredDesk
layered_desk d = record {
  width = d.width;
  height = d.height;
  bar = d.bar.rows;
  bar_picture = bar_picture d.font d.bar.titles;
  desktop = pattern_bit desktop;
  windows = map (layered_window (look_of d)) d.windows;
}

abbrev pub layered_state : FullState → plain.State
layered_state s = record { desk = layered_desk s.desk; stale = s.stale; image = s.image }

-- a serial that was given before this one is, if there is one left to give: serials begin at 1
abbrev pub IsGiven : Option ℕ → ℕ → Type 0
IsGiven None n = 1 ≤ n
IsGiven (Some next) n = (1 ≤ n) × (n < next)

-- each window's serial is such
abbrev pub HaveSerials : (ℕ → Type 0) → List WindowRecord → Type 0
HaveSerials P [] = Unit {0}
HaveSerials P (w ∷ ws) = P w.serial × HaveSerials P ws

-- this is the serial of the next window, if there can be one
abbrev pub IsNext : Option ℕ → Type 0
IsNext None = Unit {0}
IsNext (Some next) = 1 ≤ next

-- the windows have serials from 1 on, below that of the next window, if there can be one
abbrev pub AreSerials : Option ℕ → List WindowRecord → Type 0
AreSerials next ws = IsNext next × HaveSerials (IsGiven next) ws

-- a state whose pixels in no update set have the value that painting from nothing gives, and whose windows were all
-- counted
pub record IsRightState (s : FullState) : Type 0 where
  pub plain : plain.IsRight (layered_state s)
  pub serials : AreSerials s.desk.next s.desk.windows
