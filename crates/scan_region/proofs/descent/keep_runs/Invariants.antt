use Rattle.std.proofs.Common.{◌≡◌, ◌-◌, ◌++◌, ℤ, length}
use Rattle.tb_geom.specs.Points.{PixelSet}
use Rattle.scan_region.specs.Descents.{spans_of}
use Rattle.scan_region.specs.Parts.{HasSides, IsWalk, runs_left}
use Rattle.scan_region.proofs.descent.keep_runs.Given as goal

abbrev pub invariant-loop-walk : goal.invariant-loop-walk
invariant-loop-walk l = record {
  sides : (left : ℤ) → HasSides l.fn.walk left l.fn.walk.right → HasSides l.walk left l.fn.walk.right;
  walk : (s : PixelSet) → IsWalk l.fn.walk s → IsWalk l.walk s;
  v : l.walk.v ≡ l.fn.walk.v;
  right : l.walk.right ≡ l.fn.walk.right;
  runs : (s : PixelSet) → IsWalk l.fn.walk s → runs_left l.fn.walk s ≡ spans_of l.fn.walk.v l.kept.items ++ runs_left l.walk s;
}

abbrev pub decreases-loop-walk : goal.decreases-loop-walk
decreases-loop-walk l = 16 - length l.kept.items
