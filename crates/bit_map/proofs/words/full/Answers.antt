use Rattle.std.proofs.Common.{◌∙◌, sym, rules}
use Rattle.bit_map.proofs.WordLemmas.{bit_in-full, bit_in-none}
use Rattle.bit_map.proofs.words.full.Goals as goal

pub returns-then-bit : goal.returns-then-bit
returns-then-bit c = λ k low. bit_in-full k ∙ sym (search rules)

pub returns-else-bit : goal.returns-else-bit
returns-else-bit c = λ k low. bit_in-none k ∙ sym (search rules)
