-- Painting the whole desk from nothing, back to front.
use Rattle.std.specs.Prelude.{Bool, true, false, ◌&&◌, if◌then◌else◌, List, [], ◌∷◌, ◌++◌, fold}
use Rattle.tb_geom.specs.declared.point.Point.{Point}
use Rattle.tb_geom.specs.Points.{PixelSet}
use Rattle.desk_layers.specs.Desk.{ContentLayer, LayeredWindow, LayeredDesk, local, in_bar, in_structure}

-- something that is painted on the screen: where it lies, and what it shows there
pub record Layer : Type 0 where
  pub extent : PixelSet
  pub picture : PixelSet

-- what a window paints of these content layers, which are from front to back: from back to front, cut to its structure
abbrev pub content_layers : LayeredWindow → List ContentLayer → List Layer
content_layers w [] = []
content_layers w (l ∷ ls) =
    content_layers w ls
    ++ record { extent = λ p. in_structure w p && l.extent (local w p); picture = λ p. l.picture (local w p) } ∷ []

-- a window's layers from back to front: its frame, then its content
abbrev pub window_layers : LayeredWindow → List Layer
window_layers w = record { extent = in_structure w; picture = λ p. w.frame (local w p) } ∷ content_layers w w.layers

-- of windows from front to back, the layers from back to front
abbrev pub layers_of : List LayeredWindow → List Layer
layers_of [] = []
layers_of (w ∷ ws) = layers_of ws ++ window_layers w

-- the desktop, the windows, and the menu bar in front of all
abbrev pub layers : LayeredDesk → List Layer
layers desk =
    (record { extent = λ p. true; picture = desk.desktop } ∷ layers_of desk.windows)
    ++ record { extent = in_bar desk; picture = desk.bar_picture } ∷ []

-- a layer that holds the pixel replaces its value
abbrev pub painted : Point → Bool → Layer → Bool
painted p value layer = if layer.extent p then layer.picture p else value

-- the value that painting from nothing gives the pixel
abbrev pub scratch : LayeredDesk → PixelSet
scratch desk p = fold (painted p) false (layers desk)
