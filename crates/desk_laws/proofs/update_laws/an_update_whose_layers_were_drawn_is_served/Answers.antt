use Rattle.desk_laws.proofs.ServedRuns.{drawn_update_is_served, drawn_update_leaves_nothing, drawn_update_leaves_others}
use Rattle.desk_laws.proofs.update_laws.an_update_whose_layers_were_drawn_is_served.Goals as goal

pub returns-clause-served : goal.returns-clause-served
returns-clause-served c = drawn_update_is_served

pub returns-clause-empty : goal.returns-clause-empty
returns-clause-empty c = drawn_update_leaves_nothing

pub returns-clause-others : goal.returns-clause-others
returns-clause-others c = drawn_update_leaves_others
