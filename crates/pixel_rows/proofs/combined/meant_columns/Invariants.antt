use Rattle.std.proofs.Common.{◌≤ℤ◌}
use Rattle.pixel_rows.specs.Columns.{has_column}
use Rattle.pixel_rows.specs.Combined.{means}
use Rattle.pixel_rows.proofs.ColumnLemmas.{AreKept}
use Rattle.pixel_rows.proofs.combined.meant_columns.Given as goal

abbrev pub invariant-loop-h : goal.invariant-loop-h
invariant-loop-h l = record {
  low : l.fn.bounds.left ≤ℤ l.h;
  kept : AreKept (λ h. means l.how (has_column l.first h) (has_column l.second h)) l.fn.bounds.left l.h l.row;
}
