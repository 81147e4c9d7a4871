use Rattle.std.proofs.Common.{◌∙◌, arith}
use Rattle.draw_port.specs.Canvases.{canvas_holds}
use Rattle.draw_port.proofs.CanvasLemmas.{SameFrame-then}
use Rattle.looks.proofs.PaintLemmas.{drawn-more, drawn-white}
use Rattle.looks.proofs.draw.draw_look.Goals as goal

pub loop-step-init : goal.loop-step-init
loop-step-init c = record {
  same_map = c.fill_all.ensures.same_map;
  same_frame = c.fill_all.ensures.same_frame;
  drawn = drawn-white c.args.canvas.now (canvas_holds c.args.canvas.now) _ _ c.fill_all.ensures.drawn;
}

pub loop-step-preserved : goal.loop-step-preserved
loop-step-preserved c =
    let was = c.loop-step.invariant in
    record {
      same_map = c.draw_step.ensures.same_map ∙ was.same_map;
      same_frame = SameFrame-then _ _ _ was.same_frame c.draw_step.ensures.same_frame;
      drawn = drawn-more c.args.text.now c.args.canvas.now c.loop-step.canvas c.args.steps.now c.loop-step.step-index _ _ _ _ (omega arith) was.same_frame was.drawn c.draw_step.ensures.drawn;
    }
