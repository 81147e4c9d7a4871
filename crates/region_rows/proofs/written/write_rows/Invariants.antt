use Rattle.std.proofs.Common.{take}
use Rattle.region_bytes.specs.Writing.{AreWritten}
use Rattle.region_rows.proofs.written.write_rows.Given as goal

abbrev pub invariant-loop-row : goal.invariant-loop-row
invariant-loop-row l = AreWritten l.out (take l.row-index l.rows)
