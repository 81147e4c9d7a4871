use Rattle.std.proofs.Common.{◌≡◌, ◌++◌, take, drop}
use Rattle.region_rows.specs.Moves.{moved_rows}
use Rattle.region_rows.proofs.offset.move_rows.Given as goal

abbrev pub invariant-loop-row : goal.invariant-loop-row
invariant-loop-row l = l.rows ≡ moved_rows (take l.row-index l.fn.rows) (record { h = l.dh; v = l.dv }) ++ drop l.row-index l.fn.rows
