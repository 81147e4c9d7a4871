use Rattle.std.proofs.Common.{◌≡◌, ◌<◌, ◌≤◌, ℕ, false}
use Rattle.bit_map.specs.Rules.{right_of}
use Rattle.bit_map.specs.Words.{bit_in}
use Rattle.draw_port.specs.Places.{stopped}
use Rattle.draw_port.proofs.rules.SeenRule.word.Given as goal

abbrev pub invariant-loop-k : goal.invariant-loop-k
invariant-loop-k g l = record {
  low : l.k ≤ l.count;
  done : (j : ℕ) → j < l.k → bit_in l.new j ≡ g.R.Rule.value l.self.rule.now (stopped (right_of l.start j) l.self.origin) (bit_in l.old j);
  left : (j : ℕ) → l.k ≤ j → j < 64 → bit_in l.new j ≡ false;
}
