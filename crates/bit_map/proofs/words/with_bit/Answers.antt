use Rattle.bit_map.proofs.WordLemmas.{with_bit-is}
use Rattle.bit_map.proofs.words.with_bit.Goals as goal

pub returns : goal.returns
returns c = λ k low. with_bit-is c.args.word c.one_bit.result c.one_bit-2.result k c.args.place c.args.bit c.one_bit.type_inv low (c.one_bit.ensures k low) (c.one_bit-2.ensures k low)
