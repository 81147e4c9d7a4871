use Rattle.std.proofs.Common.{◌≤◌, ◌*◌, ◌-◌, ◌+◌}
use Rattle.bit_map.specs.Words.{IsMoved}
use Rattle.bit_map.proofs.moves.up_by_one.Given as goal

abbrev pub invariant-loop-k : goal.invariant-loop-k
invariant-loop-k l = record {
  low : l.k ≤ l.count;
  moved : IsMoved (64 * (l.first + l.k)) (64 * (l.near + l.k) + l.bit) (64 * (l.count - l.k)) l.fn.words l.words;
}
