use Rattle.std_cdef.proofs.DragLemmas.{drag_more}
use Rattle.std_cdef.proofs.laws.a_further_way_gives_no_smaller_value.Goals as goal

pub returns : goal.returns
returns c = drag_more
