use Rattle.std.proofs.Common.{subst}
use Rattle.bit_blit.specs.Draws.{Draws}
use Rattle.draw_port.specs.Canvases.{canvas_holds, canvas_point}
use Rattle.draw_port.proofs.CanvasLemmas.{SameFrame-then}
use Rattle.text_paint.specs.Selected.{reselected}
use Rattle.text_paint.specs.Shown.{with_selection}
use Rattle.text_paint.proofs.PaintLemmas.{text_drawn}
use Rattle.text_paint.proofs.view.draw_text.Goals as goal

pub returns-clause-drawn : goal.returns-clause-drawn
returns-clause-drawn c =
    let canvas = c.draw_lines.new.canvas in
    text_drawn c.args.canvas.now canvas c.args.text.now _ _ _ c.draw_lines.ensures.same_frame c.draw_lines.ensures.drawn
    (subst (λ s. Draws (canvas_holds canvas) (λ p x. with_selection (reselected s c.args.text.now) (canvas_point canvas p) x) canvas.map.now c.invert_selection.new.canvas.map.now) c.of.ensures c.invert_selection.ensures.drawn)

pub returns-clause-same_frame : goal.returns-clause-same_frame
returns-clause-same_frame c = SameFrame-then _ _ _ c.draw_lines.ensures.same_frame c.invert_selection.ensures.same_frame
