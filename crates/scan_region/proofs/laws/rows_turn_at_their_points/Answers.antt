use Rattle.scan_region.proofs.TurningRows.{as_above, turned_row}
use Rattle.scan_region.proofs.laws.rows_turn_at_their_points.Goals as goal

pub returns-clause-without : goal.returns-clause-without
returns-clause-without c = as_above

pub returns-clause-points : goal.returns-clause-points
returns-clause-points c = turned_row
