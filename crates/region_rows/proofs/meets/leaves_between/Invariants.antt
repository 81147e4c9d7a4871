use Rattle.std.proofs.Common.{◌≡◌, ℤ, ◌<ℤ◌, ◌≤ℤ◌, false}
use Rattle.region_bytes.specs.Points.{in_rows}
use Rattle.region_rows.proofs.meets.leaves_between.Given as goal

abbrev pub invariant-loop : goal.invariant-loop
invariant-loop l = record {
  on : l.left ≤ℤ l.h;
  out : (z : ℤ) → l.left ≤ℤ z → z <ℤ l.h → in_rows l.rows z l.v ≡ false;
}
