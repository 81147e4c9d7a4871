use Rattle.std.proofs.Common.{◌∙◌, sym}
use Rattle.draw_port.proofs.CanvasLemmas.{SameFrame-then}
use Rattle.text_paint.proofs.PaintLemmas.{white_drawn, frame_drawn}
use Rattle.text_paint.proofs.frame.draw_frame.Goals as goal

pub returns-then-is_framed-clause-same_frame : goal.returns-then-is_framed-clause-same_frame
returns-then-is_framed-clause-same_frame c = SameFrame-then _ _ _ c.fill_all.ensures.same_frame c.draw_box.ensures.same_frame

pub returns-then-is_framed-clause-drawn : goal.returns-then-is_framed-clause-drawn
returns-then-is_framed-clause-drawn c =
    frame_drawn c.args.canvas.now c.fill_all.new.self c.args.text.now _ _ _ c.fill_all.ensures.same_frame (sym c.is_framed.ensures ∙ c.if-is_framed.true) c.fill_all.ensures.drawn c.draw_box.ensures.drawn

pub returns-else-is_framed-clause-drawn : goal.returns-else-is_framed-clause-drawn
returns-else-is_framed-clause-drawn c =
    white_drawn c.args.canvas.now c.args.text.now _ _ (sym c.is_framed.ensures ∙ c.if-is_framed.false) c.fill_all.ensures.drawn
