-- Where sets of pixels and runs lie.
use Rattle.std.specs.Prelude.{◌≡◌, true, false, ◌≤ℤ◌}
use Rattle.tb_geom.specs.declared.point.Point.{Point}
use Rattle.tb_geom.specs.declared.rect.Rect.{Rect}
use Rattle.tb_geom.specs.Points.{PixelSet}
use Rattle.tb_geom.specs.Rects.{is_in_range, rect_holds}
use Rattle.region_rows.specs.Edges.{IsCoordinate}
use Rattle.shape_strips.specs.declared.run.Run.{Run}

-- a rectangle in range around the set
pub record AreBounds (s : PixelSet) (r : Rect) : Type 0 where
  pub in_range : is_in_range r ≡ true
  pub around : (p : Point) → rect_holds r p ≡ false → s p ≡ false

-- the ends of the run are coordinates, the left one no further right than the right one
pub record IsPlaced (run : Run) : Type 0 where
  pub left_in : IsCoordinate run.left
  pub right_in : IsCoordinate run.right
  pub order : run.left ≤ℤ run.right
