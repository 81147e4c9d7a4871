use Rattle.std.proofs.Common.{◌≡◌, length}
use Rattle.vis_update.specs.Plans.{areas_then}
use Rattle.vis_update.proofs.plan.settle.Given as goal

abbrev pub invariant-loop-area : goal.invariant-loop-area
invariant-loop-area l = areas_then l.areas.items l.planned.items ≡ areas_then l.fn.areas.items l.fn.planned.items

abbrev pub decreases-loop-area : goal.decreases-loop-area
decreases-loop-area l = length l.planned.items
