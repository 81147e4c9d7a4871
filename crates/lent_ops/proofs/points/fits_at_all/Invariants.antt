use Rattle.std.proofs.Common.{◌≡◌, length}
use Rattle.std.specs.List.{list_all}
use Rattle.shape_strips.specs.Lines.{pen_fits}
use Rattle.lent_ops.specs.Points.{points_of}
use Rattle.lent_ops.proofs.points.fits_at_all.Given as goal

abbrev pub invariant-loop-point : goal.invariant-loop-point
invariant-loop-point l = list_all (pen_fits l.pen) (points_of l.rest) ≡ list_all (pen_fits l.fn.pen) (points_of l.fn.bytes)

abbrev pub decreases-loop-point : goal.decreases-loop-point
decreases-loop-point l = length l.rest
