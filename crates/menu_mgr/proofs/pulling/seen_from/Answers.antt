use Rattle.std.proofs.Common.{arith}
use Rattle.std.proofs.lemmas.Int.{ints, to_z-of_z}
use Rattle.menu_mgr.proofs.pulling.seen_from.Goals as goal

pub returns : goal.returns
returns c = grind (arith, ints, to_z-of_z)
