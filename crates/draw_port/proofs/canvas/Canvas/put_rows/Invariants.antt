use Rattle.std.proofs.Common.{◌≡◌, ◌≤ℤ◌, ◌-ℤ◌, ◌&&◌, nat_abs}
use Rattle.std.specs.Int.{int_max}
use Rattle.tb_geom.specs.Rects.{rect_holds}
use Rattle.bit_blit.specs.Draws.{Draws}
use Rattle.draw_port.specs.Canvases.{canvas_holds, canvas_point, SameFrame}
use Rattle.draw_port.specs.Texts.{put_value}
use Rattle.draw_port.proofs.canvas.Canvas.put_rows.Given as goal

abbrev pub invariant-loop-top : goal.invariant-loop-top
invariant-loop-top l = record {
  same_map : l.self.map.ghost_name ≡ l.fn.self.map.ghost_name;
  same_frame : SameFrame l.fn.self l.self;
  drawn : Draws (λ p. canvas_holds l.fn.self p && rect_holds (record { left = l.rect.left; top = l.rect.top; right = l.rect.right; bottom = l.top }) (canvas_point l.fn.self p))
      (λ p d. put_value l.fn.self.font.now l.put.clip.now l.put.text.now l.put.pen l.put.mode (canvas_point l.fn.self p) d) l.fn.self.map.now l.self.map.now;
  low : l.rect.top ≤ℤ l.top;
  within : l.top ≤ℤ int_max l.rect.top l.rect.bottom;
}

abbrev pub decreases-loop-top : goal.decreases-loop-top
decreases-loop-top l = nat_abs (l.rect.bottom -ℤ l.top)
