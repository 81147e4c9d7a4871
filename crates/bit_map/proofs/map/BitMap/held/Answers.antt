use Rattle.std.proofs.Common.{◌≡◌, ◌∙◌, sym, false, rules}
use Rattle.bit_map.specs.Bits.{is_below}
use Rattle.bit_map.specs.Rules.{right_of}
use Rattle.bit_map.proofs.RunLemmas.{row_off}
use Rattle.bit_map.proofs.WordLemmas.{bit_in-none}
use Rattle.bit_map.proofs.map.BitMap.held.Goals as goal

pub returns-else-is_below-clause-value : goal.returns-else-is_below-clause-value
returns-else-is_below-clause-value c =
    let off : is_below c.args.self.now.height c.args.start.v ≡ false = search rules in
    λ k low. bit_in-none k ∙ sym (row_off c.args.self.now (right_of c.args.start k) off)
