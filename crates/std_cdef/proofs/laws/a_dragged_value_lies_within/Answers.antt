use Rattle.std_cdef.proofs.DragLemmas.{dragged_within}
use Rattle.std_cdef.proofs.laws.a_dragged_value_lies_within.Goals as goal

pub returns : goal.returns
returns c = dragged_within
