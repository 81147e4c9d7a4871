use Rattle.std.proofs.Common.{◌≡◌}
use Rattle.std.proofs.lemmas.Result.{IfOk-weaker}
use Rattle.lent_ops.proofs.FrameLemmas.{frame_is}
use Rattle.lent_ops.proofs.SaidPixels.{region_is}
use Rattle.lent_ops.specs.OpRefs.{frame_pixels}
use Rattle.lent_ops.proofs.owning.to_frame.Goals as goal

pub returns-in-Ok : goal.returns-in-Ok
returns-in-Ok c =
    let is = region_is c.args.bytes.now c.in-Ok.region (rw c.as_slice.ensures at c.in-Ok.ensures) in
    let framed = rw (is, c.to_pen.ensures) at c.frame_of_region.ensures in
    IfOk-weaker c.frame_of_region.result _ (λ region. region ≡ frame_pixels c.args.bytes.now c.args.pen)
    (λ region same. frame_is c.args.bytes.now c.args.pen region same) framed
