-- The layers of a window's content in front of its picture, and the one that a pixel belongs to. Points are in the window's
-- own coordinates.
use Rattle.std.specs.Prelude.{◌≡◌, ℕ, Bool, true, false, ◌&&◌, ◌||◌, if◌then◌else◌, List, [], ◌∷◌, Option, All, AllPairs}
use Rattle.std.specs.List.{position}
use Rattle.tb_geom.specs.declared.point.Point.{Point}
use Rattle.tb_geom.specs.Points.{PixelSet}
use Rattle.tb_geom.specs.Pixels.{holds}
use Rattle.tb_geom.specs.Rects.{rect_holds, is_in_range, moved_rect}
use Rattle.desk_layers.specs.declared.part.Part.{Part}
use Rattle.desk_layers.specs.declared.part.Part.TheVariants.{Picture}
use Rattle.desk_layers.specs.Desk.{same_part}
use Rattle.def_iface.specs.WindowMeaning.{IsWithin}
use Rattle.window_list.specs.declared.layer.Layer.{Layer}

-- layers from front to back, and where the window's own 0 0 lies on the screen
pub record PlacedLayers : Type 0 where
  pub place : Point
  pub layers : List Layer

-- the layer is shown and holds the pixel
abbrev pub layer_has : Layer → PixelSet
layer_has l p = l.shown && holds l.region p

-- some layer does
abbrev pub is_covered : List Layer → PixelSet
is_covered [] p = false
is_covered (l ∷ ls) p = layer_has l p || is_covered ls p

-- the part that the pixel belongs to: that of the first layer which is shown and holds it, else the picture
abbrev pub part_at : List Layer → Point → Part
part_at [] p = Picture
part_at (l ∷ ls) p = if layer_has l p then l.part else part_at ls p

-- the pixel belongs to this part
abbrev pub belongs_to : Part → List Layer → PixelSet
belongs_to part ls p = same_part (part_at ls p) part

-- where the layer of this part stands
abbrev pub layer_index : Part → List Layer → Option ℕ
layer_index part ls = position (λ l. same_part l.part part) ls

-- each layer is another part, and none is the picture
abbrev pub ArePartsApart : List Layer → Type 0
ArePartsApart ls = All (λ l. same_part l.part Picture ≡ false) ls × AllPairs (λ k l. same_part k.part l.part ≡ false) ls

-- the layer lies in its box
abbrev pub IsBoxed : Layer → Type 0
IsBoxed l = IsWithin (holds l.region) (rect_holds l.bounds)

-- the box lies in the range of coordinates where the window is at this place
abbrev pub fits_at : Point → Layer → Bool
fits_at place l = is_in_range (moved_rect l.bounds place.h place.v)

-- the layer lies in its box, and that in the range of coordinates, in the window's own and in those of the screen
pub record IsLayerAt (place : Point) (l : Layer) : Type 0 where
  pub boxed : IsBoxed l
  pub inside : is_in_range l.bounds ≡ true
  pub fits : fits_at place l ≡ true
