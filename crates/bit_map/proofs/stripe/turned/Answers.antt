use Rattle.std.proofs.Common.{rules}
use Rattle.bit_map.proofs.StripeLemmas.{turned-is}
use Rattle.bit_map.proofs.stripe.turned.Goals as goal

pub returns : goal.returns
returns c = rw c.from.ensures (λ j low. turned-is c.args.row c.args.first j (search rules) c.requires low)
