use Rattle.std.proofs.Common.{rules}
use Rattle.bit_map.proofs.StripeLemmas.{repeated-is}
use Rattle.bit_map.proofs.stripe.repeated.Goals as goal

pub returns : goal.returns
returns c = rw c.from.ensures (λ k low. repeated-is c.args.row k (search rules) low)
