use Rattle.std.proofs.Common.{◌≡◌, ◌++◌, take}
use Rattle.region_rows.proofs.kernel.push_all.Given as goal

abbrev pub invariant-loop-x : goal.invariant-loop-x
invariant-loop-x l = l.out.items ≡ l.fn.out.items ++ take l.x-index l.edges
