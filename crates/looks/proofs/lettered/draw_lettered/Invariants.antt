use Rattle.std.proofs.Common.{◌≡◌, take}
use Rattle.bit_blit.specs.Draws.{Draws}
use Rattle.draw_port.specs.Canvases.{canvas_holds, canvas_point, SameFrame}
use Rattle.looks.specs.Lettered.{lettered_value}
use Rattle.looks.proofs.lettered.draw_lettered.Given as goal

abbrev pub invariant-loop-lettered : goal.invariant-loop-lettered
invariant-loop-lettered l = record {
  same_map : l.canvas.map.ghost_name ≡ l.fn.canvas.map.ghost_name;
  same_frame : SameFrame l.fn.canvas l.canvas;
  drawn : Draws (canvas_holds l.fn.canvas)
      (λ p d. lettered_value l.fn.canvas.font.now (take l.lettered-index l.steps) (canvas_point l.fn.canvas p) d)
      l.fn.canvas.map.now l.canvas.map.now;
}
