-- How far a region has been read.
use Rattle.std.specs.Prelude.{◌≡◌, ◌&&◌, ◌⊎◌, ◌<◌, ◌≤◌, ℕ, List, map, length, take, slice_index_or, ℤ, pos, int_le, ◌<ℤ◌}
use Rattle.region_bytes.specs.Points.{in_rows, top_of}
use Rattle.region_rows.specs.Edges.{differ, inside, IsRow}
use Rattle.region_rows.specs.Rows.{EdgeRow}

-- the row at `next`, if there is one, lies below the row x
pub record RowsAt (rows : List EdgeRow) (next : ℕ) (x : ℤ) : Type 0 where
  pub within : next ≤ length rows
  pub ahead : next < length rows → x <ℤ slice_index_or (map top_of rows) next (pos 0)

-- with the row v the rows from `next` up to `after` are read, of which there is one, with these points, or none
pub record IsRead (rows : List EdgeRow) (next after : ℕ) (v : ℤ) (points : List ℤ) : Type 0 where
  pub row : IsRow points
  pub pixels : (h w : ℤ) → in_rows (take after rows) h w ≡ differ (int_le v w && inside points h) (in_rows (take next rows) h w)
  pub at : (x : ℤ) → RowsAt rows next x → x <ℤ v → RowsAt rows after v

-- the row v is the next one of either
abbrev pub IsNextRow : List EdgeRow → ℕ → List EdgeRow → ℕ → ℤ → Type 0
IsNextRow a i b j v = ((i < length a) × (slice_index_or (map top_of a) i (pos 0) ≡ v)) ⊎ ((j < length b) × (slice_index_or (map top_of b) j (pos 0) ≡ v))
