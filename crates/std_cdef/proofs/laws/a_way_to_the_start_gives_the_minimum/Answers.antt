use Rattle.std_cdef.proofs.DragLemmas.{drag_first}
use Rattle.std_cdef.proofs.laws.a_way_to_the_start_gives_the_minimum.Goals as goal

pub returns : goal.returns
returns c = drag_first
