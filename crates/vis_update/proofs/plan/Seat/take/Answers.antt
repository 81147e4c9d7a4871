use Rattle.std.proofs.Common.{rules}
use Rattle.vis_update.proofs.Sweeping.{share_of}
use Rattle.vis_update.proofs.plan.Seat.take.Goals as goal

pub returns : goal.returns
returns g c =
    share_of _ c.args.rest c.args.self.now c.in_ok-structure.field-0 c.in_ok-taken.taken c.in_ok-around.around c.in_ok-sect.field-0 c.in_ok-left.left
    (c.is_beside.ensures.shown (search rules)) c.in_ok-structure.ensures c.in_ok-taken.ensures c.in_ok-sect.ensures c.in_ok-around.ensures c.in_ok-left.ensures
