use Rattle.std.proofs.Common.{◌≡◌}
use Rattle.draw_port.specs.Canvases.{SameFrame}
use Rattle.list_view.specs.Walks.{AreDrawn}
use Rattle.list_view.proofs.WalkLemmas.{is_above}
use Rattle.list_view.proofs.walk.draw_rows.Given as goal

abbrev pub invariant-loop-row : goal.invariant-loop-row
invariant-loop-row g l = record {
  same_map : l.canvas.map.ghost_name ≡ l.fn.canvas.map.ghost_name;
  same_frame : SameFrame l.fn.canvas l.canvas;
  drawn : AreDrawn l.fn.canvas (g.P.CellPen.value l.pen l.cells) l.view l.cells (is_above l.row) l.fn.canvas.map.now l.canvas.map.now;
}
