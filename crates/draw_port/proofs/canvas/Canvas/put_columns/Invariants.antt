use Rattle.std.proofs.Common.{◌≡◌, ◌≤ℤ◌, ◌-ℤ◌, ◌&&◌, nat_abs}
use Rattle.std.specs.Int.{int_max}
use Rattle.tb_geom.specs.Rects.{rect_holds}
use Rattle.bit_blit.specs.Draws.{Draws}
use Rattle.draw_port.specs.Canvases.{canvas_holds, canvas_point, SameFrame}
use Rattle.draw_port.specs.Texts.{put_value}
use Rattle.draw_port.proofs.canvas.Canvas.put_columns.Given as goal

abbrev pub invariant-loop-left : goal.invariant-loop-left
invariant-loop-left l = record {
  same_map : l.self.map.ghost_name ≡ l.fn.self.map.ghost_name;
  same_frame : SameFrame l.fn.self l.self;
  drawn : Draws (λ p. canvas_holds l.fn.self p && rect_holds (record { left = l.rect.left; top = l.rect.top; right = l.left; bottom = l.rect.bottom }) (canvas_point l.fn.self p))
      (λ p d. put_value l.fn.self.font.now l.put.clip.now l.put.text.now l.put.pen l.put.mode (canvas_point l.fn.self p) d) l.fn.self.map.now l.self.map.now;
  low : l.rect.left ≤ℤ l.left;
  within : l.left ≤ℤ int_max l.rect.left l.rect.right;
}

abbrev pub decreases-loop-left : goal.decreases-loop-left
decreases-loop-left l = nat_abs (l.rect.right -ℤ l.left)
