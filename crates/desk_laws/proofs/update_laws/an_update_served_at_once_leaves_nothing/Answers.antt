use Rattle.desk_laws.proofs.ServedRuns.{served_update_leaves_nothing, served_update_leaves_others}
use Rattle.desk_laws.proofs.update_laws.an_update_served_at_once_leaves_nothing.Goals as goal

pub returns-clause-empty : goal.returns-clause-empty
returns-clause-empty c = served_update_leaves_nothing

pub returns-clause-others : goal.returns-clause-others
returns-clause-others c = served_update_leaves_others
