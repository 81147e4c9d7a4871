use Rattle.std.proofs.Common.{◌≡◌, drop}
use Rattle.std_mldef.specs.Rows.{chosen_from}
use Rattle.std_mldef.proofs.chosen.chosen_in.Given as goal

abbrev pub invariant-loop-at : goal.invariant-loop-at
invariant-loop-at l = chosen_from l.menu l.size 0 l.menu.items l.point ≡ chosen_from l.menu l.size l.at (drop l.at l.menu.items) l.point
