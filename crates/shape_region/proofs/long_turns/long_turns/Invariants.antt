use Rattle.std.proofs.Common.{◌+◌, ◌≤◌, length}
use Rattle.region_rows.proofs.Turnings.{TurnsTo}
use Rattle.shape_region.proofs.long_turns.long_turns.Given as goal

abbrev pub invariant-loop-xs : goal.invariant-loop-xs
invariant-loop-xs l = record {
  turned : TurnsTo l.above l.row l.xs l.ys l.points.items;
  few : length l.points.items + (length l.xs + length l.ys) ≤ 66;
}

abbrev pub decreases-loop-xs : goal.decreases-loop-xs
decreases-loop-xs l = length l.xs + length l.ys
