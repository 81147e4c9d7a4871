use Rattle.std.proofs.Common.{◌≡◌, ◌<◌, ◌≤◌, ◌*◌, ℕ, get_or}
use Rattle.bit_map.specs.Rules.{right_of}
use Rattle.bit_map.specs.Words.{place_bit}
use Rattle.draw_port.specs.Places.{stopped}
use Rattle.draw_port.proofs.rules.SeenRule.words.Given as goal

abbrev pub invariant-loop-k : goal.invariant-loop-k
invariant-loop-k g l = record {
  done : (n : ℕ) → n < 64 * l.k → place_bit l.run n ≡ g.R.Rule.value l.self.rule.now (stopped (right_of l.start n) l.self.origin) (place_bit l.fn.run n);
  left : (j : ℕ) → l.k ≤ j → get_or l.run j 0 ≡ get_or l.fn.run j 0;
}
