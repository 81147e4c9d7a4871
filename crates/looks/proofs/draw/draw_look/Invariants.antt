use Rattle.std.proofs.Common.{◌≡◌, take}
use Rattle.bit_blit.specs.Draws.{Draws}
use Rattle.draw_port.specs.Canvases.{canvas_holds, canvas_point, SameFrame}
use Rattle.looks.specs.Letters.{lettering}
use Rattle.looks.specs.Marks.{look_bit}
use Rattle.looks.proofs.draw.draw_look.Given as goal

abbrev pub invariant-loop-step : goal.invariant-loop-step
invariant-loop-step l = record {
  same_map : l.canvas.map.ghost_name ≡ l.fn.canvas.map.ghost_name;
  same_frame : SameFrame l.fn.canvas l.canvas;
  drawn : Draws (canvas_holds l.fn.canvas) (λ p _. look_bit (lettering l.fn.canvas.font.now l.text) (take l.step-index l.steps) (canvas_point l.fn.canvas p)) l.fn.canvas.map.now l.canvas.map.now;
}
