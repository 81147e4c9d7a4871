use Rattle.std.proofs.Common.{◌≤◌, ◌*◌}
use Rattle.bit_map.specs.Rules.{IsLaid}
use Rattle.bit_map.proofs.effect.Effects.lay_eights.Given as goal

abbrev pub invariant-loop-k : goal.invariant-loop-k
invariant-loop-k l = record {
  low : l.k ≤ l.eights;
  laid : IsLaid l.fn.self 0 (512 * l.k) l.fn.run l.run;
}
