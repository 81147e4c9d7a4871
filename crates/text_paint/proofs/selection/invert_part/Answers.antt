use Rattle.std.proofs.Common.{◌∙◌, sym}
use Rattle.text_paint.specs.Selected.{reselected}
use Rattle.text_paint.specs.Shown.{has_part, part_left, part_right, rows_between}
use Rattle.text_paint.proofs.PaintLemmas.{part_none}
use Rattle.text_paint.proofs.selection.invert_part.Goals as goal

pub returns-else-has_part-clause-drawn : goal.returns-else-has_part-clause-drawn
returns-else-has_part-clause-drawn c =
    let r = reselected c.args.selected c.args.text.now in
    let j = c.args.number in
    part_none c.args.canvas.now (rows_between r j (part_left r j) (part_right r j)) (has_part r j) c.args.canvas.now.map.now (sym c.if-has_part.false ∙ c.has_part.ensures)
