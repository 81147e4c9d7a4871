use Rattle.std.proofs.Common.{ap, ◌∙◌}
use Rattle.draw_port.proofs.CanvasLemmas.{SameFrame-then}
use Rattle.draw_port.proofs.OverLemmas.{Draws-black-around}
use Rattle.text_paint.specs.Shown.{inset}
use Rattle.text_paint.proofs.frame.fill_around.Goals as goal

pub returns-clause-drawn : goal.returns-clause-drawn
returns-clause-drawn c =
    Draws-black-around c.args.canvas.now c.fill_all.new.self _ _ _ _ _ c.fill_all.ensures.same_frame (c.inset.ensures ∙ ap inset c.bounds.ensures.sides) c.fill_all.ensures.drawn c.fill.ensures.drawn

pub returns-clause-same_frame : goal.returns-clause-same_frame
returns-clause-same_frame c = SameFrame-then _ _ _ c.fill_all.ensures.same_frame c.fill.ensures.same_frame
