-- The kinds of layers: the picture, the text records, the lists and the controls of a window. Points are of the screen.
use Rattle.std.specs.Prelude.{Bool, true, false}
use Rattle.tb_geom.specs.Points.{PixelSet, minus}
use Rattle.desk_layers.specs.declared.part.Part.{Part}
use Rattle.desk_layers.specs.declared.part.Part.TheVariants as part
use Rattle.desk_call.specs.declared.update.LayerKind.{LayerKind}
use Rattle.desk_call.specs.declared.update.LayerKind.TheVariants.{Picture, Texts, Lists, Controls}
use Rattle.window_list.specs.Holders.{part_at}
use Rattle.window_list.specs.declared.window.Window.{Window}

-- the part is of these layers
abbrev pub is_of : LayerKind → Part → Bool
is_of Picture part.Picture = true
is_of Texts (part.Text n) = true
is_of Lists (part.List n) = true
is_of Controls (part.Control n) = true
is_of _ _ = false

-- the layer that the window has at the pixel of the screen is of this kind
abbrev pub is_kind_there : {V : Type 0} {H : V → Type 0} → LayerKind → Window V H → PixelSet
is_kind_there kind w p = is_of kind (part_at w.layers.layers (minus p w.layers.place))
