use Rattle.std.proofs.Common.{◌<◌, ◌∙◌, length, arith}
use Rattle.draw_port.proofs.CanvasLemmas.{SameFrame-then, painted-more}
use Rattle.draw_port.proofs.canvas.Canvas.paint_all.Goals as goal

pub loop-op-preserved : goal.loop-op-preserved
loop-op-preserved c =
    let inside : c.loop-op.op-index < length c.ops-op-items.result.now = omega arith in
    let same = c.ops-op-items.ensures.same in
    record {
      same_map = c.paint.ensures.same_map ∙ c.loop-op.invariant.same_map;
      same_frame = SameFrame-then _ _ _ c.loop-op.invariant.same_frame c.paint.ensures.same_frame;
      drawn = painted-more c.args.self.now c.loop-op.self c.args.picture.now c.loop-op.op-index c.op-item.result _ _ _ (rw same at inside) (rw same at c.op-item.is) c.loop-op.invariant.same_frame c.loop-op.invariant.drawn c.paint.ensures.drawn;
    }
