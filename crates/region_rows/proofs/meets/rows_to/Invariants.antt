use Rattle.std.proofs.Common.{ℕ, ◌-◌, ◌<◌, ◌≤◌, ◌≤ℤ◌, length}
use Rattle.region_rows.specs.Hull.{row_in}
use Rattle.region_rows.proofs.meets.rows_to.Given as goal

abbrev pub invariant-loop-count : goal.invariant-loop-count
invariant-loop-count l = record {
  within : l.count ≤ length l.rows;
  upper : (k : ℕ) → k < l.count → (row_in l.rows k).0 ≤ℤ l.v;
}

abbrev pub decreases-loop-count : goal.decreases-loop-count
decreases-loop-count l = length l.rows - l.count
