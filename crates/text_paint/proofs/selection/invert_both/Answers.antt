use Rattle.std.proofs.Common.{subst}
use Rattle.bit_blit.specs.Draws.{Draws}
use Rattle.draw_port.specs.Canvases.{canvas_holds, canvas_point}
use Rattle.draw_port.proofs.CanvasLemmas.{SameFrame-then}
use Rattle.text_paint.specs.Selected.{reselected}
use Rattle.text_paint.specs.Shown.{with_selection}
use Rattle.text_paint.proofs.OverLemmas.{all_over}
use Rattle.text_paint.proofs.selection.invert_both.Goals as goal

pub returns-clause-drawn : goal.returns-clause-drawn
returns-clause-drawn c =
    let r = c.args.text.now in
    let canvas = c.invert_selection.new.canvas in
    all_over c.args.canvas.now canvas (λ font p d. with_selection (reselected c.args.was r) p d) (λ font p d. with_selection r p d) _ _ _ c.invert_selection.ensures.same_frame c.invert_selection.ensures.drawn
    (subst (λ s. Draws (canvas_holds canvas) (λ p x. with_selection (reselected s r) (canvas_point canvas p) x) canvas.map.now c.invert_selection-2.new.canvas.map.now) c.of.ensures c.invert_selection-2.ensures.drawn)

pub returns-clause-same_frame : goal.returns-clause-same_frame
returns-clause-same_frame c = SameFrame-then _ _ _ c.invert_selection.ensures.same_frame c.invert_selection-2.ensures.same_frame
