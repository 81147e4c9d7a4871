use Rattle.draw_port.proofs.CanvasLemmas.{SameFrame-then}
use Rattle.text_paint.proofs.PaintLemmas.{all_drawn}
use Rattle.text_paint.proofs.view.draw_text_record.Goals as goal

pub returns-clause-drawn : goal.returns-clause-drawn
returns-clause-drawn c =
    all_drawn c.args.canvas.now c.draw_frame.new.canvas c.args.text.now _ _ _ c.draw_frame.ensures.same_frame c.draw_frame.ensures.drawn c.draw_view.ensures.drawn

pub returns-clause-same_frame : goal.returns-clause-same_frame
returns-clause-same_frame c = SameFrame-then _ _ _ c.draw_frame.ensures.same_frame c.draw_view.ensures.same_frame
