use Rattle.std.proofs.Common.{◌+◌, length}
use Rattle.region_rows.proofs.Turnings.{TurnsTo}
use Rattle.region_rows.proofs.turning.keep_turned.Given as goal

abbrev pub invariant-loop-xs : goal.invariant-loop-xs
invariant-loop-xs l = TurnsTo l.edges l.columns l.xs l.ys l.out.items

abbrev pub decreases-loop-xs : goal.decreases-loop-xs
decreases-loop-xs l = length l.xs + length l.ys
