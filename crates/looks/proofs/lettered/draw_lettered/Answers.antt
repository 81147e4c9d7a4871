use Rattle.std.proofs.Common.{◌∙◌, arith}
use Rattle.draw_port.proofs.CanvasLemmas.{SameFrame-then}
use Rattle.looks.proofs.PaintLemmas.{lettered-more}
use Rattle.looks.proofs.lettered.draw_lettered.Goals as goal

pub loop-lettered-preserved : goal.loop-lettered-preserved
loop-lettered-preserved c =
    let was = c.loop-lettered.invariant in
    record {
      same_map = c.draw_step.ensures.same_map ∙ was.same_map;
      same_frame = SameFrame-then _ _ _ was.same_frame c.draw_step.ensures.same_frame;
      drawn = lettered-more c.args.canvas.now c.loop-lettered.canvas c.args.steps.now c.loop-lettered.lettered-index c.lettered-item.result c.as_slice.result.now _ _ _ (omega arith) c.lettered-item.is c.as_slice.ensures was.same_frame was.drawn c.draw_step.ensures.drawn;
    }
