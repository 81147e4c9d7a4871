use Rattle.std.proofs.Common.{◌≤ℤ◌}
use Rattle.shape_region.proofs.MadeLemmas.{AreMade}
use Rattle.shape_region.proofs.making.made_rows.Given as goal

abbrev pub invariant-loop-v : goal.invariant-loop-v
invariant-loop-v g l = record {
  low : l.bounds.top ≤ℤ l.v;
  high : l.v ≤ℤ l.bounds.bottom;
  made : AreMade (g.R.Rows.pixels l.form) l.rows.items l.above.items l.v;
}
