use Rattle.std.proofs.Common.{◌≤◌, ◌*◌, ◌-◌, ◌+◌}
use Rattle.bit_map.specs.Words.{IsMoved}
use Rattle.bit_map.proofs.moves.up_by_four.Given as goal

abbrev pub invariant-loop-k : goal.invariant-loop-k
invariant-loop-k l = record {
  low : l.k ≤ l.fours;
  moved : IsMoved (64 * (l.first + 4 * l.k)) (64 * (l.near + 4 * l.k) + l.bit) (256 * (l.fours - l.k)) l.fn.words l.words;
}
