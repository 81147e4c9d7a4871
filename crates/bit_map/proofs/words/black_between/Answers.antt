use Rattle.bit_map.proofs.WordLemmas.{black_between-is}
use Rattle.bit_map.proofs.words.black_between.Goals as goal

pub returns : goal.returns
returns c = λ k low. black_between-is c.black_from.result c.black_from-2.result c.args.first c.args.end k c.black_from-2.type_inv (c.black_from.ensures k low) (c.black_from-2.ensures k low)
