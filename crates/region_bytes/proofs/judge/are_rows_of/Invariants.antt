use Rattle.std.proofs.Common.{◌≡◌, length}
use Rattle.region_bytes.specs.Words.{words_in}
use Rattle.region_bytes.specs.Scan.{from_place}
use Rattle.region_bytes.proofs.judge.are_rows_of.Given as goal

abbrev pub invariant-loop-rest : goal.invariant-loop-rest
invariant-loop-rest l = from_place l.at (words_in l.rest) ≡ from_place l.initial.at (words_in l.fn.bytes)

abbrev pub decreases-loop-rest : goal.decreases-loop-rest
decreases-loop-rest l = length l.rest
