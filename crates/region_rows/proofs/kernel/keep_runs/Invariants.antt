use Rattle.std.proofs.Common.{length}
use Rattle.region_rows.proofs.RunEdges.{RunsTo}
use Rattle.region_rows.proofs.kernel.keep_runs.Given as goal

abbrev pub invariant-loop-rest : goal.invariant-loop-rest
invariant-loop-rest l = RunsTo l.row l.rest l.out.items l.within l.edges

abbrev pub decreases-loop-rest : goal.decreases-loop-rest
decreases-loop-rest l = length l.rest
