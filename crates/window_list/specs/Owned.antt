-- What the regions that are kept beside the layers have of the screen.
use Rattle.std.specs.Prelude.{◌≡◌, false, not, ◌&&◌, ◌||◌, List, [], ◌∷◌}
use Rattle.std.specs.List.{AllZip}
use Rattle.tb_geom.specs.declared.point.Point.{Point}
use Rattle.tb_geom.specs.Points.{PixelSet, minus}
use Rattle.tb_geom.specs.Pixels.{Pixels, holds}
use Rattle.window_list.specs.declared.layer.Layer.{Layer}
use Rattle.window_list.specs.Holders.{layer_has}

-- of a window at this place, the region has what the layer has and those in front of it leave
abbrev pub IsTaken : Point → PixelSet → Layer → Pixels → Type 0
IsTaken place front l r = (p : Point) → holds r p ≡ (layer_has l (minus p place) && not (front (minus p place)))

-- one region a layer, each what its layer takes where this lies in front of all
abbrev pub AreTaken : Point → PixelSet → List Layer → List Pixels → Type 0
AreTaken place front [] [] = Unit {0}
AreTaken place front (l ∷ ls) (r ∷ rs) = IsTaken place front l r × AreTaken place (λ p. front p || layer_has l p) ls rs
AreTaken place front [] (r ∷ rs) = ⊥
AreTaken place front (l ∷ ls) [] = ⊥

-- no pixel
abbrev pub nothing : PixelSet
nothing p = false

-- one region a layer, each what its layer has and none in front of it
abbrev pub AreOwned : Point → List Layer → List Pixels → Type 0
AreOwned place layers regions = AreTaken place nothing layers regions

-- one region for each, with its pixels moved by d
abbrev pub AreMoved : Point → List Pixels → List Pixels → Type 0
AreMoved d old new = AllZip (λ r s. (p : Point) → holds s p ≡ holds r (minus p d)) old new
