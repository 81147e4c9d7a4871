-- A walk from row to row.
use Rattle.std.specs.Prelude.{◌≡◌, List, [], ◌++◌, map, drop, ℤ, pos, ◌<ℤ◌, ◌≤ℤ◌}
use Rattle.tb_geom.specs.declared.rect.Rect.{Rect}
use Rattle.tb_geom.specs.Points.{PixelSet}
use Rattle.scan_region.specs.Parts.{IsWalk, HasSides, runs_left}
use Rattle.region_rows.specs.Counts.{count_to}
use Rattle.scan_region.specs.Walks.{row_runs, rows_runs}
use Rattle.scan_region.specs.declared.descent.Descent.{Descent}
use Rattle.scan_region.specs.declared.descent.Run.{Run}
use Rattle.scan_region.specs.declared.spans.Span.{Span}

-- the sides of the rectangle do not lie crosswise, its first column is not the last number, and its rows have pixels
abbrev pub IsUpright : Rect → Type 0
IsUpright r = (r.left ≤ℤ r.right) × (r.left <ℤ pos 2147483647) × (r.top <ℤ r.bottom → r.left <ℤ r.right)

-- a run in the row v
abbrev pub span_of : ℤ → Run → Span
span_of v run = record { v = v; left = run.left; right = run.right }

abbrev pub spans_of : ℤ → List Run → List Span
spans_of v runs = map (span_of v) runs

-- the rows from `next` up to `until` have just these runs
abbrev pub AreKept : PixelSet → ℤ → ℤ → List Run → ℤ → ℤ → Type 0
AreKept s left right kept next until = (w : ℤ) → next ≤ℤ w → w <ℤ until → row_runs s w left right ≡ spans_of w kept

-- the runs are those of the set
pub record IsDescent (d : Descent) (s : PixelSet) : Type 0 where
  pub walk : IsWalk d.walk s
  pub sides : HasSides d.walk d.left d.walk.right
  pub order : d.walk.v ≤ℤ d.next
  pub column : d.left <ℤ pos 2147483647
  pub same : AreKept s d.left d.walk.right d.kept.items d.next d.until
  pub whole : d.v <ℤ d.until → runs_left d.walk s ≡ []

-- the spans that are left
abbrev pub spans_left : Descent → PixelSet → List Span
spans_left d s = spans_of d.v (drop d.told d.kept.items) ++ (runs_left d.walk s ++ rows_runs s d.next d.left d.walk.right (count_to d.next d.bottom))

-- the descent has gone on from the one to the other, where all runs of the row at hand were told: the spans left are those of the rows below
pub record IsDown (d n : Descent) (s : PixelSet) : Type 0 where
  pub descent : IsDescent n s
  pub spans : spans_left n s ≡ rows_runs s d.next d.left d.walk.right (count_to d.next d.bottom)
