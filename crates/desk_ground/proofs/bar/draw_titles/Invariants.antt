use Rattle.std.proofs.Common.{◌≡◌, ◌≤◌, ◌+◌, ◌*◌, take}
use Rattle.bit_blit.specs.Draws.{Draws}
use Rattle.draw_port.specs.Canvases.{canvas_holds, canvas_point, SameFrame}
use Rattle.desk_ground.specs.Bars.{titles_value}
use Rattle.desk_ground.proofs.BarLemmas.{columns}
use Rattle.desk_ground.proofs.bar.draw_titles.Given as goal

abbrev pub invariant-loop-title : goal.invariant-loop-title
invariant-loop-title l = let font = l.fn.canvas.font.now in record {
  same_map : l.canvas.map.ghost_name ≡ l.fn.canvas.map.ghost_name;
  same_frame : SameFrame l.fn.canvas l.canvas;
  left : l.left ≡ columns font 10 (take l.title-index l.titles);
  near : l.left ≤ 10 + 65041 * l.title-index;
  drawn : Draws (canvas_holds l.fn.canvas)
      (λ p d. titles_value font 10 (take l.title-index l.titles) (canvas_point l.fn.canvas p) d)
      l.fn.canvas.map.now l.canvas.map.now;
}
