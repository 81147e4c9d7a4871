use Rattle.std.proofs.Common.{◌≤ℤ◌}
use Rattle.pixel_rows.specs.Columns.{has_column}
use Rattle.region_inset.specs.Near.{IsRun}
use Rattle.region_inset.proofs.narrowed.run_before.Given as goal

abbrev pub invariant-loop-x : goal.invariant-loop-x
invariant-loop-x l = record {
  low : l.fn.from ≤ℤ l.x;
  high : l.x ≤ℤ l.fn.to;
  run : IsRun l.all (has_column l.columns) l.fn.from l.x l.alike;
}
