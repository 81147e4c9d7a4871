use Rattle.std_cdef.proofs.DragLemmas.{drag_last}
use Rattle.std_cdef.proofs.laws.a_way_to_the_end_gives_the_maximum.Goals as goal

pub returns : goal.returns
returns c = drag_last
