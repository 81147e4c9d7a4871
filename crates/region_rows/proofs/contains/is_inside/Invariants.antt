use Rattle.std.proofs.Common.{◌≡◌, take}
use Rattle.region_rows.specs.Edges.{inside}
use Rattle.region_rows.proofs.contains.is_inside.Given as goal

abbrev pub invariant-loop-x : goal.invariant-loop-x
invariant-loop-x l = l.within ≡ inside (take l.x-index l.points) l.h
