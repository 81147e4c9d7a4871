use Rattle.std.proofs.Common.{◌≡◌, ℤ}
use Rattle.tb_geom.specs.Points.{PixelSet}
use Rattle.scan_region.specs.Parts.{HasSides, IsWalk, runs_left}
use Rattle.region_rows.specs.Counts.{count_to}
use Rattle.scan_region.proofs.walk.Walk.row_span.Given as goal

abbrev pub invariant-loop-self : goal.invariant-loop-self
invariant-loop-self l = record {
  sides : (left : ℤ) → HasSides l.fn.self left l.fn.self.right → HasSides l.self left l.fn.self.right;
  walk : (s : PixelSet) → IsWalk l.fn.self s → IsWalk l.self s;
  v : l.self.v ≡ l.fn.self.v;
  right : l.self.right ≡ l.fn.self.right;
  runs : (s : PixelSet) → IsWalk l.fn.self s → runs_left l.fn.self s ≡ runs_left l.self s;
}

abbrev pub decreases-loop-self : goal.decreases-loop-self
decreases-loop-self l = count_to l.self.at l.self.right
