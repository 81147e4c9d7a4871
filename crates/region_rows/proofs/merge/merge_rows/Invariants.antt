use Rattle.std.proofs.Common.{◌+◌, ◌-◌, length}
use Rattle.region_rows.proofs.Merged.{Merged}
use Rattle.region_rows.proofs.merge.merge_rows.Given as goal

abbrev pub invariant-loop-row : goal.invariant-loop-row
invariant-loop-row l = Merged l.a l.b l.rows.items l.operator l.i l.j l.sides.of_a.edges.items l.sides.of_b.edges.items

abbrev pub decreases-loop-row : goal.decreases-loop-row
decreases-loop-row l = (length l.a - l.i) + (length l.b - l.j)
