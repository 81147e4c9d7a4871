use Rattle.std.proofs.Common.{◌≡◌, length}
use Rattle.lent_ops.specs.Points.{are_points}
use Rattle.lent_ops.proofs.points.are_points.Given as goal

abbrev pub invariant-loop-next : goal.invariant-loop-next
invariant-loop-next l = are_points l.rest ≡ are_points l.fn.bytes

abbrev pub decreases-loop-next : goal.decreases-loop-next
decreases-loop-next l = length l.rest
