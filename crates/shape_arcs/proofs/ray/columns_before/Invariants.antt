use Rattle.std.proofs.Common.{◌≡◌, ℕ, ◌-◌, ◌<◌, ◌≤◌, true, false}
use Rattle.shape_arcs.specs.Sights.{from_at}
use Rattle.shape_arcs.proofs.ray.columns_before.Given as goal

abbrev pub invariant-loop-low : goal.invariant-loop-low
invariant-loop-low l = record {
  order : l.low ≤ l.high;
  all : l.high ≤ l.columns;
  before : (i : ℕ) → i < l.low → from_at l.rect l.direction l.v i ≡ false;
  after : (i : ℕ) → l.high ≤ i → i < l.columns → from_at l.rect l.direction l.v i ≡ true;
}

abbrev pub decreases-loop-low : goal.decreases-loop-low
decreases-loop-low l = l.high - l.low
