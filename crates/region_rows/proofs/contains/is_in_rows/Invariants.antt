use Rattle.std.proofs.Common.{◌≡◌, take}
use Rattle.region_bytes.specs.Points.{in_rows}
use Rattle.region_rows.proofs.contains.is_in_rows.Given as goal

abbrev pub invariant-loop-row : goal.invariant-loop-row
invariant-loop-row l = l.within ≡ in_rows (take l.row-index l.rows) l.h l.v
