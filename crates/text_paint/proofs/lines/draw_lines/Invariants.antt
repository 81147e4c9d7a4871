use Rattle.std.proofs.Common.{◌≡◌}
use Rattle.bit_blit.specs.Draws.{Draws}
use Rattle.draw_port.specs.Canvases.{SameFrame, canvas_holds, canvas_point}
use Rattle.text_paint.proofs.PaintLemmas.{inked}
use Rattle.text_paint.proofs.lines.draw_lines.Given as goal

abbrev pub invariant-loop-number : goal.invariant-loop-number
invariant-loop-number l = record {
  same_map : l.canvas.map.ghost_name ≡ l.fn.canvas.map.ghost_name;
  same_frame : SameFrame l.fn.canvas l.canvas;
  drawn : Draws (canvas_holds l.fn.canvas) (λ p x. inked l.fn.canvas.font.now l.text l.number (canvas_point l.fn.canvas p) x) l.fn.canvas.map.now l.canvas.map.now;
}
