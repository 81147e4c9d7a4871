use Rattle.std.proofs.Common.{◌≡◌}
use Rattle.list_cells.proofs.BlockLemmas.{smallest_below}
use Rattle.list_cells.proofs.block.smallest_block.Given as goal

abbrev pub invariant-loop-other : goal.invariant-loop-other
invariant-loop-other l = l.block ≡ smallest_below l.columns l.contents l.place l.other
