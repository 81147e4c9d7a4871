use Rattle.std.proofs.Common.{sym, ◌∙◌}
use Rattle.std_wdef.proofs.LineFacts.{lines_apart}
use Rattle.std_wdef.proofs.lines.grow_lines.Goals as goal

pub returns-then-has_size_box-clause-apart : goal.returns-then-has_size_box-clause-apart
returns-then-has_size_box-clause-apart c =
    rw (c.frame_lines-frame.ensures.value, c.size_box_lines-corner.ensures, c.structure_box.ensures)
    (lines_apart c.args.variation c.args.size c.requires (sym c.has_size_box.ensures ∙ c.if-has_size_box.true))
