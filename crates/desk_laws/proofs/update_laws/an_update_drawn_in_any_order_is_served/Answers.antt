use Rattle.desk_laws.proofs.ServedRuns.{drawn_in_order_is_served}
use Rattle.desk_laws.proofs.update_laws.an_update_drawn_in_any_order_is_served.Goals as goal

pub returns : goal.returns
returns c = drawn_in_order_is_served
