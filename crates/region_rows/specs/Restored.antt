-- How far rows of points are read.
use Rattle.std.specs.Prelude.{◌≡◌, ◌≢◌, List, ◌∷◌, ◌++◌, ℤ, pos, All}
use Rattle.region_bytes.specs.Points.{PointRow, IsCanonical, IsInRange}
use Rattle.region_bytes.specs.Words.{data_words}

-- the words are the data of rows of points in range
pub record IsRowData (words : List ℤ) : Type 0 where
  pub points : List PointRow
  pub canonical : IsCanonical points
  pub in_range : All IsInRange points
  pub written : data_words points ≡ words

-- the words begin with columns and the end of a row
pub record IsColumns (columns words after : List ℤ) : Type 0 where
  pub told : All (λ x. x ≢ pos 32767) columns
  pub parted : words ≡ columns ++ pos 32767 ∷ after
