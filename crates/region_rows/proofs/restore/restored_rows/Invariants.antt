use Rattle.std.proofs.Common.{length}
use Rattle.region_bytes.specs.Words.{words_in}
use Rattle.region_rows.proofs.Restored.{IsRestored}
use Rattle.region_rows.proofs.restore.restored_rows.Given as goal

abbrev pub invariant-loop-v : goal.invariant-loop-v
invariant-loop-v l = IsRestored (words_in l.bytes) (words_in l.rest) l.rows.items

abbrev pub decreases-loop-v : goal.decreases-loop-v
decreases-loop-v l = length l.rest
