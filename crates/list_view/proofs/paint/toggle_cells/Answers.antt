use Rattle.draw_port.specs.Canvases.{canvas_holds, canvas_point}
use Rattle.list_view.proofs.TurnLemmas.{turned_list}
use Rattle.list_view.proofs.paint.toggle_cells.Goals as goal

pub returns-clause-drawn : goal.returns-clause-drawn
returns-clause-drawn g c = λ after said.
    turned_list c.args.canvas.now.font.now (g.D.DrawnList.list_loan c.args.definition.now).definition c.args.view c.args.cells.now after c.args.selecting (canvas_holds c.args.canvas.now) (canvas_point c.args.canvas.now) _ _ said c.draw_rows.ensures.drawn
