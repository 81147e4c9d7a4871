use Rattle.std.proofs.Common.{◌≡◌, ◌≤ℤ◌, ◌&&◌}
use Rattle.std.specs.Int.{int_max}
use Rattle.bit_blit.specs.Draws.{Draws}
use Rattle.draw_port.specs.Canvases.{canvas_holds, canvas_point, SameFrame}
use Rattle.draw_port.specs.Ops.{shade_value}
use Rattle.draw_port.proofs.StripLemmas.{in_rows}
use Rattle.draw_port.proofs.canvas.Canvas.strip_rows.Given as goal

abbrev pub invariant-loop-v : goal.invariant-loop-v
invariant-loop-v g l = record {
  same_map : l.self.map.ghost_name ≡ l.fn.self.map.ghost_name;
  same_frame : SameFrame l.fn.self l.self;
  low : l.fn.rows.top ≤ℤ l.v;
  within : l.v ≤ℤ int_max l.fn.rows.top l.fn.rows.bottom;
  drawn : Draws (λ p. canvas_holds l.fn.self p && in_rows (g.S.Strip.pixels l.strip) l.fn.rows.top l.v (canvas_point l.fn.self p))
      (λ p old. shade_value l.shade (canvas_point l.fn.self p) old) l.fn.self.map.now l.self.map.now;
}
