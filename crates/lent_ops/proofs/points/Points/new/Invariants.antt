use Rattle.std.proofs.Common.{◌≡◌, ◌≤◌, ◌+◌, ◌*◌, ◌++◌, length, take}
use Rattle.lent_ops.specs.Points.{points_of}
use Rattle.lent_ops.proofs.points.Points.new.Given as goal

abbrev pub invariant-loop-point : goal.invariant-loop-point
invariant-loop-point l =
    (length l.room ≡ 1024) × ((4 * l.count + length l.rest ≤ 4096) × (take l.count l.room ++ points_of l.rest ≡ points_of l.fn.bytes))

abbrev pub decreases-loop-point : goal.decreases-loop-point
decreases-loop-point l = length l.rest
