use Rattle.std.proofs.Common.{subst, [], ap, ◌∙◌}
use Rattle.bit_blit.specs.Draws.{Draws}
use Rattle.draw_port.specs.Canvases.{canvas_holds, canvas_point}
use Rattle.looks.specs.declared.step.Step.{Step}
use Rattle.looks.specs.Letters.{lettering}
use Rattle.looks.specs.Marks.{step_value, inverted, when}
use Rattle.std_mldef.proofs.CellLemmas.{cell_inverted}
use Rattle.std_mldef.proofs.cells.invert_cell.Goals as goal

pub returns-clause-drawn : goal.returns-clause-drawn
returns-clause-drawn c =
    cell_inverted c.args.canvas.now c.args.size c.args.test [] c.args.canvas.now.map.now c.draw_step.new.canvas.map.now
    (subst (λ (step : Step). Draws (canvas_holds c.args.canvas.now) (λ p x. step_value (lettering c.args.canvas.now.font.now []) (canvas_point c.args.canvas.now p) x step) c.args.canvas.now.map.now c.draw_step.new.canvas.map.now)
    (c.when.ensures ∙ ap (when c.args.test) (c.inverted.ensures ∙ ap inverted c.cell_box.ensures)) c.draw_step.ensures.drawn)
