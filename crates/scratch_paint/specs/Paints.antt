-- A desk painted from nothing.
use Rattle.std.specs.Prelude.{◌≡◌, ℕ, Bool, true, List, map, fold, pos}
use Rattle.tb_geom.specs.declared.point.Point.{Point}
use Rattle.tb_geom.specs.Points.{PixelSet}
use Rattle.tb_geom.specs.Pixels.{Pixels, holds}
use Rattle.bit_map.specs.Bits.{Bits, bit}
use Rattle.desk_layers.specs.declared.part.Part.{Part}
use Rattle.desk_layers.specs.Desk.{on_screen}
use Rattle.def_iface.specs.WindowMeaning.{IsWithin}
use Rattle.desk_layers.specs.Scratch.{painted, content_layers, window_layers, layers_of, scratch}
use Rattle.window_list.specs.declared.layer.Layer.{Layer}
use Rattle.vis_update.specs.Records.{WindowRecord, Look, content_layer, layered_window}
use Rattle.window_mgr.specs.FullDesk.{FullDesk, layered_desk}

-- how a desk looks in this font, where controls, lists and text records show this
abbrev pub look_in : (List ℕ → Part → PixelSet) → List ℕ → Look
look_in shows font = record { font = font; shows = shows font }

-- what painting these layers of a window makes of the value of a pixel, the rearmost first
abbrev pub layers_value : Look → WindowRecord → List Layer → Point → Bool → Bool
layers_value look w ls p value =
    fold (painted p) value (content_layers (layered_window look w) (map (content_layer look (w.definition.content w.size)) ls))

-- the pixels of a window's content in its own coordinates, all of them in its structure
pub record IsLocalContent (w : WindowRecord) (content : Pixels) : Type 0 where
  pub pixels : (p : Point) → holds content p ≡ w.definition.content w.size p
  pub within : IsWithin (w.definition.content w.size) (w.definition.structure w.size)

-- what painting a window, which looks so, makes of it
abbrev pub window_value : Look → WindowRecord → Point → Bool → Bool
window_value look w p value = fold (painted p) value (window_layers (layered_window look w))

-- what painting windows makes of it, the rearmost first
abbrev pub windows_value : Look → List WindowRecord → Point → Bool → Bool
windows_value look ws p value = fold (painted p) value (layers_of (map (layered_window look) ws))

-- the map has the size of the desk's screen, and each pixel of it this value
pub record IsPaintedSo (desk : FullDesk) (value : PixelSet) (m : Bits) : Type 0 where
  pub wide : pos m.width ≡ desk.width
  pub high : pos m.height ≡ desk.height
  pub pixels : (p : Point) → on_screen (layered_desk desk) p ≡ true → bit m p ≡ value p

-- the map is what painting the windows, the menu bar and the desktop from nothing gives
abbrev pub IsPaintedDesk : FullDesk → Bits → Type 0
IsPaintedDesk desk m = IsPaintedSo desk (scratch (layered_desk desk)) m
