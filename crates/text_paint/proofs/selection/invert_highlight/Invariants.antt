use Rattle.std.proofs.Common.{◌≡◌}
use Rattle.bit_blit.specs.Draws.{Draws}
use Rattle.draw_port.specs.Canvases.{SameFrame, canvas_holds, canvas_point}
use Rattle.text_paint.specs.Selected.{reselected}
use Rattle.text_paint.proofs.PaintLemmas.{turned}
use Rattle.text_paint.proofs.selection.invert_highlight.Given as goal

abbrev pub invariant-loop-number : goal.invariant-loop-number
invariant-loop-number l = record {
  same_map : l.canvas.map.ghost_name ≡ l.fn.canvas.map.ghost_name;
  same_frame : SameFrame l.fn.canvas l.canvas;
  drawn : Draws (canvas_holds l.fn.canvas) (λ p x. turned (reselected l.selected l.text) l.number (canvas_point l.fn.canvas p) x) l.fn.canvas.map.now l.canvas.map.now;
}
