use Rattle.std.proofs.Common.{◌≡◌}
use Rattle.list_mgr.specs.ListRefusals.{have_room}
use Rattle.list_mgr.proofs.judging.have_room.Given as goal

abbrev pub invariant-loop-left : goal.invariant-loop-left
invariant-loop-left l = have_room l.left l.count l.next ≡ have_room l.fn.wanted l.fn.count l.fn.next

abbrev pub decreases-loop-left : goal.decreases-loop-left
decreases-loop-left l = l.left
