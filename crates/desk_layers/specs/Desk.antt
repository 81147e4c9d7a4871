-- The desk as plain data: a stack of layers, with no region and no saved pixel.
use Rattle.std.specs.Prelude.{◌≡◌, ℕ, Bool, true, false, ◌==◌, ◌&&◌, if◌then◌else◌, List, [], ◌∷◌, Option, None, Some, ℤ, pos, int_lt}
use Rattle.tb_geom.specs.declared.point.Point.{Point}
use Rattle.tb_geom.specs.Points.{PixelSet, minus}
use Rattle.tb_geom.specs.Rects.{between}
use Rattle.desk_layers.specs.declared.part.Part.{Part}
use Rattle.desk_layers.specs.declared.part.Part.TheVariants as part

-- a layer of a window's content: where it lies and what it shows, in the window's coordinates
pub record ContentLayer : Type 0 where
  pub part : Part
  pub extent : PixelSet
  pub picture : PixelSet

-- a window: its content layers from front to back, over its frame; all but its place is in its own coordinates
pub record LayeredWindow : Type 0 where
  pub serial : ℕ
  -- where its own 0 0 lies on the screen
  pub place : Point
  pub shown : Bool
  pub structure : PixelSet
  pub frame : PixelSet
  pub layers : List ContentLayer

-- a desk: the desktop, the windows over it, and the menu bar in front of all
pub record LayeredDesk : Type 0 where
  pub width : ℤ
  pub height : ℤ
  -- the rows of the menu bar, at the top
  pub bar : ℤ
  pub bar_picture : PixelSet
  pub desktop : PixelSet
  -- from front to back
  pub windows : List LayeredWindow

-- the pixel is one of the screen's
abbrev pub on_screen : LayeredDesk → PixelSet
on_screen desk p = between (pos 0) p.h desk.width && between (pos 0) p.v desk.height

-- the pixel, if it is one of the screen's, is one of the menu bar's
abbrev pub in_bar : LayeredDesk → PixelSet
in_bar desk p = int_lt p.v desk.bar

-- the pixel in the window's own coordinates
abbrev pub local : LayeredWindow → Point → Point
local w p = minus p w.place

-- the window is visible, and its structure holds the pixel
abbrev pub in_structure : LayeredWindow → PixelSet
in_structure w p = w.shown && w.structure (local w p)

-- the window of this serial
abbrev pub window_of : ℕ → List LayeredWindow → Option LayeredWindow
window_of s [] = None
window_of s (w ∷ ws) = if w.serial == s then Some w else window_of s ws

-- the parts are one: both the picture, or controls, lists or text records of one serial
abbrev pub same_part : Part → Part → Bool
same_part part.Picture part.Picture = true
same_part (part.Control a) (part.Control b) = a == b
same_part (part.List a) (part.List b) = a == b
same_part (part.Text a) (part.Text b) = a == b
same_part _ _ = false

-- the layer that is this part
abbrev pub layer_of : Part → List ContentLayer → Option ContentLayer
layer_of part [] = None
layer_of part (l ∷ ls) = if same_part l.part part then Some l else layer_of part ls

-- no two layers are one part
abbrev pub AreParts : List ContentLayer → Type 0
AreParts [] = Unit {0}
AreParts (l ∷ ls) = (layer_of l.part ls ≡ None) × AreParts ls

-- no two windows have one serial, and no two layers of a window are one part
abbrev pub AreWindows : List LayeredWindow → Type 0
AreWindows [] = Unit {0}
AreWindows (w ∷ ws) = (window_of w.serial ws ≡ None) × (AreParts w.layers × AreWindows ws)

-- its windows and their layers can be told from each other
abbrev pub IsDesk : LayeredDesk → Type 0
IsDesk desk = AreWindows desk.windows
