-- The exact box of rows of inversion points.
use Rattle.std.specs.Prelude.{◌≡◌, ◌<◌, ℕ, List, [], length, slice_index_or, ℤ, pos, ◌≤ℤ◌, All}
use Rattle.tb_geom.specs.declared.rect.Rect.{Rect}
use Rattle.tb_geom.specs.Rects.{empty_rect}
use Rattle.region_rows.specs.Rows.{EdgeRow, AreRows}

-- the row in the place k
abbrev pub row_in : List EdgeRow → ℕ → EdgeRow
row_in rows k = slice_index_or rows k (pos 0, [])

-- the number lies from the one to the other
abbrev pub IsFromTo : ℤ → ℤ → ℤ → Type 0
IsFromTo low high z = (low ≤ℤ z) × (z ≤ℤ high)

-- the points of the row lie in the rectangle, its last row and column too
abbrev pub IsRowWithin : Rect → EdgeRow → Type 0
IsRowWithin r row = IsFromTo r.top r.bottom row.0 × All (IsFromTo r.left r.right) row.1

-- one of the first n rows has a point in the column x
pub record IsColumnOf (rows : List EdgeRow) (n : ℕ) (x : ℤ) : Type 0 where
  pub row : ℕ
  pub place : ℕ
  pub there : row < n
  pub in_row : place < length (row_in rows row).1
  pub here : slice_index_or (row_in rows row).1 place (pos 0) ≡ x

-- one of the rows is the row v
pub record IsRowOf (rows : List EdgeRow) (v : ℤ) : Type 0 where
  pub row : ℕ
  pub there : row < length rows
  pub here : (row_in rows row).0 ≡ v

-- the rectangle reaches from the first to the last row and column of the points
pub record IsHull (rows : List EdgeRow) (r : Rect) : Type 0 where
  pub none : length rows ≡ 0 → r ≡ empty_rect
  pub within : All (IsRowWithin r) rows
  pub left : 0 < length rows → IsColumnOf rows (length rows) r.left
  pub right : 0 < length rows → IsColumnOf rows (length rows) r.right
  pub top : 0 < length rows → IsRowOf rows r.top
  pub bottom : 0 < length rows → IsRowOf rows r.bottom

-- these are the rows of a region, and its box
pub record IsRegion (rows : List EdgeRow) (r : Rect) : Type 0 where
  pub are_rows : AreRows rows
  pub hull : IsHull rows r
