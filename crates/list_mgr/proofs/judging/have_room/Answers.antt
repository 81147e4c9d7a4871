use Rattle.std.proofs.Common.{◌-◌, ◌+◌, arith, sym, ap, ◌∙◌}
use Rattle.list_mgr.specs.ListRefusals.{have_room}
use Rattle.list_mgr.proofs.Numbers.{room_for_more}
use Rattle.list_mgr.proofs.judging.have_room.Goals as goal

pub loop-left-preserved : goal.loop-left-preserved
loop-left-preserved c =
    ap (have_room (c.loop-left.left - 1) (c.loop-left.count + 1)) c.serial_after-next.ensures
    ∙ sym (room_for_more c.loop-left.left c.loop-left.count c.in-Some.serial (omega arith) (omega arith))
    ∙ ap (have_room c.loop-left.left c.loop-left.count) (sym c.in-Some.is)
    ∙ c.loop-left.invariant
