use Rattle.std.proofs.Common.{◌≡◌, ℤ, ◌<ℤ◌, ◌≤ℤ◌, length, All}
use Rattle.region_bytes.specs.Points.{IsInRange, IsPointRow, in_rows}
use Rattle.region_rows.proofs.meets.turning_rows.Given as goal

abbrev pub invariant-loop-rest : goal.invariant-loop-rest
invariant-loop-rest l = record {
  pixels : (h v : ℤ) → l.left ≤ℤ h → h <ℤ l.right → in_rows l.rest h v ≡ in_rows l.rows h v;
  each : All IsPointRow l.rest;
  in_range : All IsInRange l.rest;
}

abbrev pub decreases-loop-rest : goal.decreases-loop-rest
decreases-loop-rest l = length l.rest
