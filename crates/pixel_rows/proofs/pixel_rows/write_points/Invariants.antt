use Rattle.std.proofs.Common.{List, ℤ, pos, ◌≤ℤ◌}
use Rattle.tb_geom.specs.declared.point.Point.{Point}
use Rattle.region_bytes.specs.Writing.{IsWritten}
use Rattle.pixel_rows.specs.Columns.{changes}
use Rattle.pixel_rows.proofs.ChangeLemmas.{AreWrittenTo}
use Rattle.pixel_rows.proofs.pixel_rows.write_points.Given as goal

abbrev pub invariant-loop-h : goal.invariant-loop-h
invariant-loop-h l = record {
  low : l.fn.bounds.left ≤ℤ l.h;
  high : l.h ≤ℤ pos 16384;
  so_far : (words : List ℤ) (points : List Point) → IsWritten l.fn.out words points
      → AreWrittenTo l.fn.bounds.left l.h (changes l.above l.row) l.turned l.v words points l.out;
}
