-- The runs of a set's pixels, column by column and row by row.
use Rattle.std.specs.Prelude.{ℕ, zero, suc, Bool, cond, List, [], ◌∷◌, ◌++◌, Option, Some, None, ℤ, pos, ◌+ℤ◌}
use Rattle.tb_geom.specs.Points.{PixelSet}
use Rattle.region_rows.specs.Counts.{count_to}
use Rattle.scan_region.specs.declared.spans.Span.{Span}

-- the runs of the row v in n columns from h on, by whether a column counts; where `open` has a column, a run from there reaches up to h
unfoldable pub runs_on : (ℤ → Bool) → ℤ → Option ℤ → ℤ → ℕ → List Span
runs_on f v None h zero = []
runs_on f v (Some from) h zero = record { v = v; left = from; right = h } ∷ []
runs_on f v None h (suc n) = cond (f h) (runs_on f v (Some h) (h +ℤ pos 1) n) (runs_on f v None (h +ℤ pos 1) n)
runs_on f v (Some from) h (suc n) = cond (f h) (runs_on f v (Some from) (h +ℤ pos 1) n) (record { v = v; left = from; right = h } ∷ runs_on f v None (h +ℤ pos 1) n)

-- the runs of a set's pixels in the row v, from the column `left` up to `right`
abbrev pub row_runs : PixelSet → ℤ → ℤ → ℤ → List Span
row_runs s v left right = runs_on (λ h. s (record { h = h; v = v })) v None left (count_to left right)

-- those in n rows from v on
unfoldable pub rows_runs : PixelSet → ℤ → ℤ → ℤ → ℕ → List Span
rows_runs s v left right zero = []
rows_runs s v left right (suc n) = row_runs s v left right ++ rows_runs s (v +ℤ pos 1) left right n
