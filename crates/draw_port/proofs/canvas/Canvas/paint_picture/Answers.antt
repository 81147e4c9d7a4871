use Rattle.draw_port.proofs.CanvasLemmas.{SameFrame-then, pictured-over}
use Rattle.draw_port.proofs.canvas.Canvas.paint_picture.Goals as goal

pub returns-clause-same_frame : goal.returns-clause-same_frame
returns-clause-same_frame c = SameFrame-then _ _ _ c.draw_within.ensures.same_frame c.paint_all.ensures.same_frame

pub returns-clause-drawn : goal.returns-clause-drawn
returns-clause-drawn c = pictured-over c.args.self.now _ c.args.picture.now _ _ _ c.draw_within.ensures.same_frame c.draw_within.ensures.drawn c.paint_all.ensures.drawn
