use Rattle.std.proofs.Common.{◌≤◌, ◌*◌}
use Rattle.bit_map.specs.Rules.{IsLaid}
use Rattle.bit_map.proofs.effect.Effects.lay_rest.Given as goal

abbrev pub invariant-loop-k : goal.invariant-loop-k
invariant-loop-k l = record {
  low : l.first ≤ l.k;
  laid : IsLaid l.fn.self (64 * l.first) (64 * l.k) l.fn.run l.run;
}
