-- Rows of points that turn some of these columns, and rows of pixels that have one in them.
use Rattle.std.specs.Prelude.{◌≡◌, ◌<◌, Bool, true, ℕ, List, length, ℤ, ◌<ℤ◌, ◌≤ℤ◌}
use Rattle.region_rows.specs.Edges.{inside}
use Rattle.region_rows.specs.Hull.{row_in}
use Rattle.region_rows.specs.Rows.{EdgeRow}

-- a row of pixels has one from the column `left` up to `right`
pub record HasBetween (left right : ℤ) (f : ℤ → Bool) : Type 0 where
  pub h : ℤ
  pub from : left ≤ℤ h
  pub to : h <ℤ right
  pub here : f h ≡ true

-- one of the rows above `bottom` turns a column from `left` up to `right`
pub record HasTurn (rows : List EdgeRow) (bottom left right : ℤ) : Type 0 where
  pub row : ℕ
  pub there : row < length rows
  pub above : (row_in rows row).0 <ℤ bottom
  pub turns : HasBetween left right (inside (row_in rows row).1)
