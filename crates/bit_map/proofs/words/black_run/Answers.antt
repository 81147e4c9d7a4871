use Rattle.bit_map.proofs.WordLemmas.{black_run-is}
use Rattle.bit_map.proofs.words.black_run.Goals as goal

pub returns : goal.returns
returns c = λ k low. black_run-is c.args.first c.args.count k c.requires.some c.requires.one low
