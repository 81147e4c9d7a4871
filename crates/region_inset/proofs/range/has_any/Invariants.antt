use Rattle.std.proofs.Common.{◌≡◌, false, ℤ, ◌≤ℤ◌, ◌<ℤ◌}
use Rattle.pixel_rows.specs.Columns.{has_column}
use Rattle.region_inset.proofs.range.has_any.Given as goal

abbrev pub invariant-loop-h : goal.invariant-loop-h
invariant-loop-h l = record {
  low : l.fn.bounds.left ≤ℤ l.h;
  none : (x : ℤ) → l.fn.bounds.left ≤ℤ x → x <ℤ l.h → has_column l.columns x ≡ false;
}
