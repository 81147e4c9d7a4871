use Rattle.std.proofs.Common.{◌≡◌, false, pos}
use Rattle.std.specs.Prelude.{None}
use Rattle.std.specs.List.{fold}
use Rattle.region_bytes.specs.Words.{grown, words_in}
use Rattle.region_bytes.specs.Scan.{points_in}
use Rattle.region_bytes.proofs.bounds.data_box.Given as goal

abbrev pub invariant-loop-p : goal.invariant-loop-p
invariant-loop-p l = fold grown l.bounds l.p-iterator ≡ fold grown None (points_in false (pos 0) (words_in l.bytes))
