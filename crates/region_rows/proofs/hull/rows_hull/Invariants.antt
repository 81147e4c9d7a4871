use Rattle.region_rows.proofs.Hulls.{ColumnsTo}
use Rattle.region_rows.proofs.hull.rows_hull.Given as goal

abbrev pub invariant-loop-row : goal.invariant-loop-row
invariant-loop-row l = ColumnsTo l.rows l.row-index l.left l.right
