-- Shapes row by row: the columns of a row, and where a row differs from the one above.
use Rattle.std.specs.Prelude.{Bool, ◌||◌, List, ℤ, ◌≤ℤ◌}
use Rattle.tb_geom.specs.Rects.{between}
use Rattle.region_rows.specs.Edges.{differ, inside, IsCoordinate}
use Rattle.shape_region.specs.declared.two_runs.TwoRuns.{TwoRuns}

-- the columns of the two runs of a row
abbrev pub two_runs : TwoRuns → ℤ → Bool
two_runs r h = between r.first h r.second || between r.third h r.last

-- their ends are coordinates, in order; a run may have no column
pub record ArePlaced (r : TwoRuns) : Type 0 where
  pub first_in : IsCoordinate r.first
  pub last_in : IsCoordinate r.last
  pub left : r.first ≤ℤ r.second
  pub middle : r.second ≤ℤ r.third
  pub right : r.third ≤ℤ r.last

-- whether a column is one of a row or of that above, by their edges, and not of both
abbrev pub turns : List ℤ → List ℤ → ℤ → Bool
turns above row h = differ (inside above h) (inside row h)
