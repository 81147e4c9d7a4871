use Rattle.std.proofs.Common.{◌≡◌, ℤ, take, ◌≤ℤ◌, ◌<ℤ◌}
use Rattle.region_bytes.specs.Points.{in_rows}
use Rattle.region_rows.specs.Columns.{seen_column}
use Rattle.region_rows.proofs.columns.next_column.Given as goal

abbrev pub invariant-loop-row : goal.invariant-loop-row
invariant-loop-row l = record {
  on : l.h <ℤ l.first;
  up_to : l.first ≤ℤ l.limit;
  steady : (z v : ℤ) → l.h ≤ℤ z → z <ℤ l.first → in_rows (take l.row-index l.rows) (seen_column l.up z) v ≡ in_rows (take l.row-index l.rows) (seen_column l.up l.h) v;
}
