use Rattle.std.proofs.Common.{◌≤◌, ◌*◌, ◌+◌}
use Rattle.bit_map.specs.Words.{IsMoved}
use Rattle.bit_map.proofs.moves.down_by_one.Given as goal

abbrev pub invariant-loop-k : goal.invariant-loop-k
invariant-loop-k l = record {
  low : l.k ≤ l.count;
  moved : IsMoved (64 * l.first) (64 * l.near + l.bit) (64 * l.k) l.fn.words l.words;
}
