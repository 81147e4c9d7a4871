use Rattle.std.proofs.Common.{◌≤ℤ◌}
use Rattle.shape_region.proofs.WrittenLemmas.{AreMadeAndWritten}
use Rattle.shape_region.proofs.writing.written_rows.Given as goal

abbrev pub invariant-loop-v : goal.invariant-loop-v
invariant-loop-v g l = record {
  low : l.bounds.top ≤ℤ l.v;
  high : l.v ≤ℤ l.bounds.bottom;
  so_far : AreMadeAndWritten (g.R.Rows.pixels l.form) l.out l.above.items l.v;
}
