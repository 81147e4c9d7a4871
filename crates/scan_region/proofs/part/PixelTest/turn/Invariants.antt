use Rattle.std.proofs.Common.{◌≡◌, ℤ, ◌≤ℤ◌, ◌<ℤ◌}
use Rattle.region_rows.specs.Counts.{count_to}
use Rattle.scan_region.specs.Parts.{test_set}
use Rattle.scan_region.proofs.part.PixelTest.turn.Given as goal

abbrev pub invariant-loop-x : goal.invariant-loop-x
invariant-loop-x l = record {
  on : l.at <ℤ l.x;
  up : l.x ≤ℤ l.limit;
  steady : (z : ℤ) → l.at ≤ℤ z → z <ℤ l.x → test_set l.self (record { h = z; v = l.v }) ≡ test_set l.self (record { h = l.at; v = l.v });
}

abbrev pub decreases-loop-x : goal.decreases-loop-x
decreases-loop-x l = count_to l.x l.limit
