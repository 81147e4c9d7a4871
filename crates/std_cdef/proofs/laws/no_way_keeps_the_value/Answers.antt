use Rattle.std_cdef.proofs.DragLemmas.{drag_none}
use Rattle.std_cdef.proofs.laws.no_way_keeps_the_value.Goals as goal

pub returns : goal.returns
returns c = drag_none
