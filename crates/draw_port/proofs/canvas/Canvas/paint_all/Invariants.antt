use Rattle.std.proofs.Common.{◌≡◌, take}
use Rattle.bit_blit.specs.Draws.{Draws}
use Rattle.draw_port.specs.Canvases.{canvas_holds, painted_all, SameFrame}
use Rattle.draw_port.proofs.canvas.Canvas.paint_all.Given as goal

abbrev pub invariant-loop-op : goal.invariant-loop-op
invariant-loop-op l = record {
  same_map : l.self.map.ghost_name ≡ l.fn.self.map.ghost_name;
  same_frame : SameFrame l.fn.self l.self;
  drawn : Draws (canvas_holds l.fn.self) (painted_all l.fn.self (take l.op-index l.picture)) l.fn.self.map.now l.self.map.now;
}
