use Rattle.std.proofs.Common.{pos, ◌≤ℤ◌}
use Rattle.pixel_rows.specs.Columns.{changes}
use Rattle.pixel_rows.proofs.ChangeLemmas.{AreFound}
use Rattle.region_inset.proofs.making.changed_columns.Given as goal

abbrev pub invariant-loop-h : goal.invariant-loop-h
invariant-loop-h l = record {
  low : l.fn.bounds.left ≤ℤ l.h;
  high : l.h ≤ℤ pos 16384;
  found : AreFound l.fn.bounds.left l.h (changes l.above l.row) l.points.items l.turned;
}
