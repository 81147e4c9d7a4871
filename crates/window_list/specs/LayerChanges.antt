-- Layers after a change, and what other layers gain by it. Points are in the window's own coordinates.
use Rattle.std.specs.Prelude.{ℕ, zero, suc, false, not, ◌&&◌, List, [], ◌∷◌, Option, None, Some}
use Rattle.tb_geom.specs.Points.{PixelSet}
use Rattle.desk_layers.specs.declared.part.Part.{Part}
use Rattle.desk_layers.specs.Desk.{same_part}
use Rattle.window_list.specs.declared.layer.Layer.{Layer}
use Rattle.window_list.specs.declared.layer.LayerShape.{LayerShape}
use Rattle.window_list.specs.Holders.{part_at, belongs_to}

-- the layer is shown or not, and lies here
abbrev pub with_shape : LayerShape → Layer → Layer
with_shape shape l = record { part = l.part; shown = shape.shown; region = shape.region; bounds = shape.bounds }

-- the layers, the one at this place so
abbrev pub reshaped : LayerShape → ℕ → List Layer → List Layer
reshaped shape i [] = []
reshaped shape zero (l ∷ ls) = with_shape shape l ∷ ls
reshaped shape (suc i) (l ∷ ls) = l ∷ reshaped shape i ls

-- the pixel belongs to what is drawn afresh, if anything is
abbrev pub is_drawn_afresh : Option Part → List Layer → PixelSet
is_drawn_afresh None ls p = false
is_drawn_afresh (Some part) ls p = belongs_to part ls p

-- the pixel belongs to another part than before, which is not drawn afresh
abbrev pub is_gained : Option Part → List Layer → List Layer → PixelSet
is_gained afresh old new p = not (same_part (part_at old p) (part_at new p)) && not (is_drawn_afresh afresh new p)
