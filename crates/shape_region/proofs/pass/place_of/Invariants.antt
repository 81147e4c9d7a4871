use Rattle.std.proofs.Common.{length, ◌-◌, ℕ, ◌<◌, ◌≤◌, get_or, pos, ◌<ℤ◌}
use Rattle.shape_region.proofs.pass.place_of.Given as goal

abbrev pub invariant-loop-place : goal.invariant-loop-place
invariant-loop-place l = record {
  within : l.place ≤ length l.columns;
  left : (k : ℕ) → k < l.place → get_or l.columns k (pos 0) <ℤ l.x;
}

abbrev pub decreases-loop-place : goal.decreases-loop-place
decreases-loop-place l = length l.columns - l.place
