use Rattle.std.proofs.Common.{◌≡◌, ◌++◌, take, drop, map, ◌+ℤ◌}
use Rattle.region_rows.proofs.row.move_points.Given as goal

abbrev pub invariant-loop-x : goal.invariant-loop-x
invariant-loop-x l = l.points ≡ map (λ x. x +ℤ l.dh) (take l.x-index l.fn.points) ++ drop l.x-index l.fn.points
