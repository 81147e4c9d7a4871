-- Whose a pixel is, and which value its owner gives it.
use Rattle.std.specs.Prelude.{ℕ, Bool, true, false, ◌==◌, ◌&&◌, if◌then◌else◌, List, [], ◌∷◌, Option, None, Some}
use Rattle.tb_geom.specs.declared.point.Point.{Point}
use Rattle.tb_geom.specs.Points.{PixelSet}
use Rattle.desk_layers.specs.declared.part.Part.{Part}
use Rattle.desk_layers.specs.Desk.{ContentLayer, LayeredWindow, LayeredDesk, local, in_bar, in_structure, window_of, layer_of, same_part}

-- what a pixel belongs to: the desktop, the menu bar, or the frame or a content layer of a window
pub data Owner : Type 0 where
  Desktop : Owner
  Bar : Owner
  Frame : (window : ℕ) → Owner
  Content : (window : ℕ) (part : Part) → Owner

-- within a window's structure: the first of its content layers that holds the pixel, else its frame
abbrev pub owner_within : LayeredWindow → List ContentLayer → Point → Owner
owner_within w [] p = Frame w.serial
owner_within w (l ∷ ls) p = if l.extent (local w p) then Content w.serial l.part else owner_within w ls p

-- the first visible window whose structure holds the pixel has its owner, and the desktop where there is none
abbrev pub owner_among : List LayeredWindow → Point → Owner
owner_among [] p = Desktop
owner_among (w ∷ ws) p = if in_structure w p then owner_within w w.layers p else owner_among ws p

-- the owner of a pixel of the screen
abbrev pub owner : LayeredDesk → Point → Owner
owner desk p = if in_bar desk p then Bar else owner_among desk.windows p

-- the owners are one
abbrev pub same_owner : Owner → Owner → Bool
same_owner Desktop Desktop = true
same_owner Bar Bar = true
same_owner (Frame s) (Frame t) = s == t
same_owner (Content s a) (Content t b) = s == t && same_part a b
same_owner _ _ = false

-- the owner is a layer of a window's content
abbrev pub is_content : Owner → Bool
is_content (Content s part) = true
is_content _ = false

-- the value of a window's frame at a pixel of the screen, if there is such a window
abbrev pub frame_bit : Option LayeredWindow → PixelSet
frame_bit None p = false
frame_bit (Some w) p = w.frame (local w p)

-- the value of a layer at a point of its window
abbrev pub layer_bit : Option ContentLayer → PixelSet
layer_bit None p = false
layer_bit (Some l) p = l.picture p

-- the value of a part of a window's content at a pixel of the screen
abbrev pub content_bit : Option LayeredWindow → Part → PixelSet
content_bit None part p = false
content_bit (Some w) part p = layer_bit (layer_of part w.layers) (local w p)

-- the value that an owner gives the pixel
abbrev pub own_bit : LayeredDesk → Owner → PixelSet
own_bit desk Desktop p = desk.desktop p
own_bit desk Bar p = desk.bar_picture p
own_bit desk (Frame s) p = frame_bit (window_of s desk.windows) p
own_bit desk (Content s part) p = content_bit (window_of s desk.windows) part p
