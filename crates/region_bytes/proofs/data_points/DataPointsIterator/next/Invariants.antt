use Rattle.std.proofs.Common.{◌≡◌, length}
use Rattle.region_bytes.specs.Words.{words_in}
use Rattle.region_bytes.specs.Scan.{points_in}
use Rattle.region_bytes.proofs.data_points.DataPointsIterator.next.Given as goal

abbrev pub invariant-words : goal.invariant-words
invariant-words l = points_in l.self-inside.within l.self-inside.v (words_in l.self-inside.rest.now) ≡ l.fn.self

abbrev pub decreases-words : goal.decreases-words
decreases-words l = length l.self-inside.rest.now
