use Rattle.std.proofs.Common.{◌≡◌, length}
use Rattle.std.specs.List.{list_all}
use Rattle.tb_geom.specs.Rects.{in_plane}
use Rattle.lent_ops.specs.Points.{points_of}
use Rattle.lent_ops.proofs.points.are_near.Given as goal

abbrev pub invariant-loop-point : goal.invariant-loop-point
invariant-loop-point l = list_all in_plane (points_of l.rest) ≡ list_all in_plane (points_of l.fn.bytes)

abbrev pub decreases-loop-point : goal.decreases-loop-point
decreases-loop-point l = length l.rest
