use Rattle.std.proofs.Common.{◌+◌, ◌≤◌, length}
use Rattle.region_rows.proofs.Turnings.{TurnsTo}
use Rattle.shape_region.proofs.turns.turn_points.Given as goal

abbrev pub invariant-loop-xs : goal.invariant-loop-xs
invariant-loop-xs l = record {
  turned : TurnsTo l.above.items l.row.items l.xs l.ys l.points.items;
  few : length l.points.items + (length l.xs + length l.ys) ≤ 8;
}

abbrev pub decreases-loop-xs : goal.decreases-loop-xs
decreases-loop-xs l = length l.xs + length l.ys
