-- The rows of spans that a cut leaves of a rectangle.
use Rattle.std.specs.Prelude.{true, List, ◌++◌, ◌<ℤ◌}
use Rattle.tb_geom.specs.Points.{PixelSet}
use Rattle.region_rows.specs.Counts.{count_to}
use Rattle.scan_region.specs.Descents.{IsDescent, spans_left}
use Rattle.scan_region.specs.Walks.{rows_runs}
use Rattle.scan_region.specs.declared.span_rows.FullRows.{FullRows}
use Rattle.scan_region.specs.declared.span_rows.SpanRows.{SpanRows}
use Rattle.scan_region.specs.declared.spans.Span.{Span}

-- each pixel
abbrev pub all_pixels : PixelSet
all_pixels p = true

-- where rows are left, they have pixels
abbrev pub IsFull : FullRows → Type 0
IsFull r = r.next <ℤ r.bottom → r.left <ℤ r.right

-- the spans of the rows that are left, one each
abbrev pub full_left : FullRows → List Span
full_left r = rows_runs all_pixels r.next r.left r.right (count_to r.next r.bottom)

-- a walk's rows are those of the set, and those of a rectangle have pixels
abbrev pub AreRowsOf : SpanRows → PixelSet → Type 0
AreRowsOf r s = IsFull r.full × IsDescent r.walked s

-- the spans that are left
abbrev pub rows_left : SpanRows → PixelSet → List Span
rows_left r s = full_left r.full ++ spans_left r.walked s
