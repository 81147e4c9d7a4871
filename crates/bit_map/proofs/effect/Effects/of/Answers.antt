use Rattle.std.proofs.Common.{◌∙◌, ap}
use Rattle.std.specs.Prelude.{bit_and}
use Rattle.bit_map.specs.Modes.{xor_bit}
use Rattle.bit_map.specs.Words.{bit_in}
use Rattle.bit_map.proofs.WordLemmas.{bit_in-and, bit_in-xor}
use Rattle.bit_map.proofs.effect.Effects.of.Goals as goal

pub returns : goal.returns
returns c = λ k low. bit_in-xor c.args.self.turns (bit_and c.args.old c.args.self.keeps) k ∙ ap (xor_bit (bit_in c.args.self.turns k)) (bit_in-and c.args.old c.args.self.keeps k)
