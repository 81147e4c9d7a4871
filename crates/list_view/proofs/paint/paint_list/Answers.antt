use Rattle.draw_port.proofs.CanvasLemmas.{SameFrame-then}
use Rattle.list_view.proofs.TurnLemmas.{shown_list}
use Rattle.list_view.proofs.paint.paint_list.Goals as goal

pub returns-clause-drawn : goal.returns-clause-drawn
returns-clause-drawn g c =
    shown_list c.args.canvas.now c.fill_all.new.self (g.D.DrawnList.list_loan c.args.definition.now).definition c.args.view c.args.cells.now _ _ _ c.fill_all.ensures.same_frame c.fill_all.ensures.drawn c.draw_rows.ensures.drawn

pub returns-clause-same_frame : goal.returns-clause-same_frame
returns-clause-same_frame g c = SameFrame-then _ _ _ c.fill_all.ensures.same_frame c.draw_rows.ensures.same_frame
