use Rattle.std.proofs.Common.{◌≡◌, ℤ, take, ◌≤ℤ◌, ◌<ℤ◌}
use Rattle.region_rows.specs.Columns.{seen_column}
use Rattle.region_rows.specs.Edges.{inside}
use Rattle.region_rows.proofs.columns.next_point.Given as goal

abbrev pub invariant-loop-x : goal.invariant-loop-x
invariant-loop-x l = record {
  on : l.h <ℤ l.first;
  up_to : l.first ≤ℤ l.limit;
  steady : (z : ℤ) → l.h ≤ℤ z → z <ℤ l.first → inside (take l.x-index l.points) (seen_column l.up z) ≡ inside (take l.x-index l.points) (seen_column l.up l.h);
}
