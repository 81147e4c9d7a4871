use Rattle.std.proofs.Common.{◌≡◌}
use Rattle.draw_port.specs.Canvases.{SameFrame}
use Rattle.list_view.specs.Walks.{AreDrawn}
use Rattle.list_view.proofs.WalkLemmas.{is_in_part}
use Rattle.list_view.proofs.walk.draw_row.Given as goal

abbrev pub invariant-loop-column : goal.invariant-loop-column
invariant-loop-column g l = record {
  same_map : l.canvas.map.ghost_name ≡ l.fn.canvas.map.ghost_name;
  same_frame : SameFrame l.fn.canvas l.canvas;
  drawn : AreDrawn l.fn.canvas (g.P.CellPen.value l.pen l.cells) l.view l.cells (is_in_part l.row l.column) l.fn.canvas.map.now l.canvas.map.now;
}
