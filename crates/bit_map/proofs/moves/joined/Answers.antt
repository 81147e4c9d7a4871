use Rattle.bit_map.proofs.MoveLemmas.{joined-is}
use Rattle.bit_map.proofs.moves.joined.Goals as goal
use Rattle.std.proofs.Common.{rules}

pub returns : goal.returns
returns c = λ k low. joined-is c.args.near c.args.far c.args.first k (search rules) c.requires low
