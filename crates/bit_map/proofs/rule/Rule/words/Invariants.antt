use Rattle.std.proofs.Common.{◌≡◌, ◌<◌, ◌≤◌, ◌*◌, ℕ, get_or}
use Rattle.bit_map.specs.Rules.{right_of}
use Rattle.bit_map.specs.Words.{place_bit}
use Rattle.bit_map.proofs.rule.Rule.words.Given as goal

abbrev pub invariant-loop-k : goal.invariant-loop-k
invariant-loop-k g l = record {
  done : (n : ℕ) → n < 64 * l.k → place_bit l.run n ≡ g.Self.Rule.value l.self (right_of l.start n) (place_bit l.fn.run n);
  left : (j : ℕ) → l.k ≤ j → get_or l.run j 0 ≡ get_or l.fn.run j 0;
}
