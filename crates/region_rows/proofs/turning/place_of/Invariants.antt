use Rattle.std.proofs.Common.{length, ◌-◌, ℕ, ◌<◌, ◌≤◌, get_or, pos, ◌<ℤ◌}
use Rattle.region_rows.proofs.turning.place_of.Given as goal

abbrev pub invariant-loop-place : goal.invariant-loop-place
invariant-loop-place l = record {
  within : l.place ≤ length l.edges;
  left : (k : ℕ) → k < l.place → get_or l.edges k (pos 0) <ℤ l.x;
}

abbrev pub decreases-loop-place : goal.decreases-loop-place
decreases-loop-place l = length l.edges - l.place
