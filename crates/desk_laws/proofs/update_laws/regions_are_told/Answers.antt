use Rattle.desk_laws.proofs.ServedRuns.{visible_is_told, update_is_told}
use Rattle.desk_laws.proofs.update_laws.regions_are_told.Goals as goal

pub returns-clause-visible : goal.returns-clause-visible
returns-clause-visible c = visible_is_told

pub returns-clause-update : goal.returns-clause-update
returns-clause-update c = update_is_told
