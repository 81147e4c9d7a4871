use Rattle.desk_laws.proofs.ServedRuns.{open_visible_is_told, open_update_is_told}
use Rattle.desk_laws.proofs.update_laws.regions_of_an_open_update_are_told.Goals as goal

pub returns-clause-visible : goal.returns-clause-visible
returns-clause-visible c = open_visible_is_told

pub returns-clause-update : goal.returns-clause-update
returns-clause-update c = open_update_is_told
