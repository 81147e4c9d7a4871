use Rattle.std.proofs.Common.{◌≡◌}
use Rattle.bit_blit.specs.Draws.{Draws}
use Rattle.draw_port.specs.Canvases.{canvas_holds, canvas_point, SameFrame}
use Rattle.std_mldef.specs.Measures.{menu_size}
use Rattle.std_mldef.specs.Rows.{rows_value, framed_bit}
use Rattle.std_mldef.proofs.rows.draw_menu.Given as goal

abbrev pub invariant-loop-at : goal.invariant-loop-at
invariant-loop-at l = let font = l.fn.canvas.font.now in record {
  same_map : l.canvas.map.ghost_name ≡ l.fn.canvas.map.ghost_name;
  same_frame : SameFrame l.fn.canvas l.canvas;
  drawn : Draws (canvas_holds l.fn.canvas)
      (λ p _. rows_value font l.menu l.lit l.at (canvas_point l.fn.canvas p)
      (framed_bit font (menu_size font l.menu) (canvas_point l.fn.canvas p)))
      l.fn.canvas.map.now l.canvas.map.now;
}
