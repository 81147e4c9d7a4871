use Rattle.std.proofs.Common.{◌-ℤ◌, ◌≤ℤ◌}
use Rattle.pixel_rows.specs.Columns.{has_column}
use Rattle.pixel_rows.proofs.ColumnLemmas.{AreKept}
use Rattle.pixel_rows.proofs.moved.moved_columns.Given as goal

abbrev pub invariant-loop-h : goal.invariant-loop-h
invariant-loop-h l = record {
  low : l.fn.bounds.left ≤ℤ l.h;
  kept : AreKept (λ h. has_column l.columns (h -ℤ l.dh)) l.fn.bounds.left l.h l.row;
}
