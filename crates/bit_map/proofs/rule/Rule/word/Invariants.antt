use Rattle.std.proofs.Common.{◌≡◌, ◌<◌, ◌≤◌, ℕ, false}
use Rattle.bit_map.specs.Rules.{right_of}
use Rattle.bit_map.specs.Words.{bit_in}
use Rattle.bit_map.proofs.rule.Rule.word.Given as goal

abbrev pub invariant-loop-k : goal.invariant-loop-k
invariant-loop-k g l = record {
  low : l.k ≤ l.count;
  done : (j : ℕ) → j < l.k → bit_in l.new j ≡ g.Self.Rule.value l.self (right_of l.start j) (bit_in l.old j);
  left : (j : ℕ) → l.k ≤ j → j < 64 → bit_in l.new j ≡ false;
}
