use Rattle.std.proofs.Common.{◌≡◌, ◌++◌, take}
use Rattle.shape_region.proofs.long_turns.push_all.Given as goal

abbrev pub invariant-loop-column : goal.invariant-loop-column
invariant-loop-column l = l.points.items ≡ l.fn.points.items ++ take l.column-index l.columns
