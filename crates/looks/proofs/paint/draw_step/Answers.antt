use Rattle.std.proofs.Common.{refl}
use Rattle.draw_port.proofs.CanvasLemmas.{SameFrame-inner}
use Rattle.looks.specs.Letters.{lettering}
use Rattle.looks.proofs.PaintLemmas.{drawn-step, drawn-none}
use Rattle.looks.proofs.paint.draw_step.Goals as goal

pub returns-then-step-clause-drawn : goal.returns-then-step-clause-drawn
returns-then-step-clause-drawn c =
    let canvas = c.args.canvas.now in
    drawn-step (lettering canvas.font.now c.args.text.now) canvas c.args.step c.placed_within.result _ _ c.if-step.true c.placed_within.ensures c.mark.ensures.drawn

pub returns-else-step-clause-drawn : goal.returns-else-step-clause-drawn
returns-else-step-clause-drawn c = drawn-none (lettering c.args.canvas.now.font.now c.args.text.now) c.args.canvas.now c.args.step _ c.if-step.false

pub returns-then-step-clause-same_frame : goal.returns-then-step-clause-same_frame
returns-then-step-clause-same_frame c =
    SameFrame-inner c.args.canvas.now _ c.mark.new.canvas _ c.args.step.cut c.placed_within.ensures refl refl c.mark.ensures.same_frame refl refl refl refl refl
