use Rattle.lent_ops.proofs.judging.is_in_range.Goals as goal

pub returns-in-Ok : goal.returns-in-Ok
returns-in-Ok c = (c.in-Ok.field-0, rw c.as_slice.ensures at c.in-Ok.ensures)
