use Rattle.std.proofs.Common.{◌≡◌, ◌≤◌, take}
use Rattle.std_mldef.specs.Measures.{widest}
use Rattle.std_mldef.proofs.measures.widest.Given as goal

abbrev pub invariant-loop-item : goal.invariant-loop-item
invariant-loop-item l = (l.width ≡ widest l.font (take l.item-index l.items)) × (l.width ≤ 65071)
