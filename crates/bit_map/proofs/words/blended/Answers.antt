use Rattle.bit_map.proofs.WordLemmas.{blended-is}
use Rattle.bit_map.proofs.words.blended.Goals as goal

pub returns : goal.returns
returns c = λ k low. blended-is c.args.old c.args.new c.args.mask k
