use Rattle.std.proofs.Common.{◌&&◌, ◌-ℤ◌, ◌+ℤ◌, ◌≤ℤ◌}
use Rattle.tb_geom.specs.Rects.{between}
use Rattle.pixel_rows.specs.Columns.{has_column}
use Rattle.pixel_rows.proofs.ColumnLemmas.{AreKept}
use Rattle.region_inset.specs.Near.{narrowed, IsRun}
use Rattle.region_inset.proofs.narrowed.narrowed_columns.Given as goal

abbrev pub invariant-loop-h : goal.invariant-loop-h
invariant-loop-h l = record {
  low : l.fn.bounds.left ≤ℤ l.h;
  run : IsRun l.all (has_column l.columns) (l.fn.bounds.left -ℤ l.reach) (l.h +ℤ l.reach) l.alike;
  kept : AreKept (λ x. between l.fn.bounds.left x l.fn.bounds.right && narrowed l.fn.d (has_column l.columns) x) l.fn.bounds.left l.h l.row;
}
