use Rattle.window_update.proofs.AnyOrder.{drawn_in_any_order_is_served}
use Rattle.window_update.proofs.laws.an_update_drawn_in_any_order_is_served.Goals as goal

pub returns : goal.returns
returns c = drawn_in_any_order_is_served
