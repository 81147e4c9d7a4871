use Rattle.std.proofs.Common.{◌≤ℤ◌}
use Rattle.pixel_rows.proofs.TurnedLemmas.{ArePut}
use Rattle.pixel_rows.proofs.columns.Columns.put_run.Given as goal

abbrev pub invariant-loop-h : goal.invariant-loop-h
invariant-loop-h l = record {
  low : l.fn.run.left ≤ℤ l.h;
  high : l.h ≤ℤ l.fn.run.right;
  put : ArePut l.fn.run.left l.h l.fn.self l.self;
}
