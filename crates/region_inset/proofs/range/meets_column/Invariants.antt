use Rattle.std.proofs.Common.{◌≡◌, false, ℤ, pos, negsuc, ◌≤ℤ◌, ◌<ℤ◌}
use Rattle.tb_geom.specs.Pixels.{holds}
use Rattle.region_inset.specs.Insets.{inset}
use Rattle.region_inset.proofs.range.meets_column.Given as goal

abbrev pub invariant-loop-v : goal.invariant-loop-v
invariant-loop-v l = record {
  low : negsuc 16383 ≤ℤ l.v;
  high : l.v ≤ℤ pos 16384;
  none : (w : ℤ) → negsuc 16384 ≤ℤ w → w <ℤ l.v → inset (holds l.region) l.dh l.dv (record { h = l.h; v = w }) ≡ false;
}
