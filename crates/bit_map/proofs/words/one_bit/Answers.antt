use Rattle.std.proofs.Common.{rules}
use Rattle.bit_map.proofs.WordLemmas.{one_bit-is}
use Rattle.bit_map.proofs.words.one_bit.Goals as goal

pub returns : goal.returns
returns c = λ k low. one_bit-is c.from.result c.args.place k c.args.bit c.requires low (search rules)
