use Rattle.std.proofs.Common.{length}
use Rattle.region_bytes.specs.Words.{words_in}
use Rattle.region_bytes.proofs.Flags.{IsCounted}
use Rattle.region_bytes.proofs.closed.is_closed.Given as goal

abbrev pub invariant-loop-rest : goal.invariant-loop-rest
invariant-loop-rest l = IsCounted l.flags l.within (words_in l.rest) (words_in l.fn.bytes)

abbrev pub decreases-loop-rest : goal.decreases-loop-rest
decreases-loop-rest l = length l.rest
