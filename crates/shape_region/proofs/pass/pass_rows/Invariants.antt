use Rattle.std.proofs.Common.{◌≤ℤ◌}
use Rattle.shape_region.specs.Polygons.{odd_edges}
use Rattle.shape_region.proofs.MadeLemmas.{AreMade}
use Rattle.shape_region.proofs.pass.pass_rows.Given as goal

abbrev pub invariant-loop-v : goal.invariant-loop-v
invariant-loop-v l = record {
  low : l.bounds.top ≤ℤ l.v;
  high : l.v ≤ℤ l.bounds.bottom;
  made : AreMade (odd_edges l.first l.others l.first) l.rows.items l.above.items l.v;
}
