use Rattle.std.proofs.Common.{◌≡◌, ◌&&◌}
use Rattle.bit_blit.specs.Draws.{Draws}
use Rattle.draw_port.specs.Canvases.{canvas_holds, canvas_point, SameFrame}
use Rattle.draw_port.specs.Ops.{shade_value}
use Rattle.looks.specs.Marks.{all_black, cross_holds}
use Rattle.looks.specs.Diagonals.{is_before}
use Rattle.looks.proofs.cross.cross.Given as goal

abbrev pub invariant-loop-row : goal.invariant-loop-row
invariant-loop-row l = record {
  same_map : l.canvas.map.ghost_name ≡ l.fn.canvas.map.ghost_name;
  same_frame : SameFrame l.fn.canvas l.canvas;
  drawn : Draws (λ p. canvas_holds l.fn.canvas p && (cross_holds l.rect (canvas_point l.fn.canvas p) && is_before l.rect l.row (canvas_point l.fn.canvas p)))
      (λ p d. shade_value all_black (canvas_point l.fn.canvas p) d)
      l.fn.canvas.map.now l.canvas.map.now;
}
