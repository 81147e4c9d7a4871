use Rattle.desk_laws.proofs.Ordering.{told_comes_first}
use Rattle.desk_laws.proofs.laws.what_is_told_comes_first_in_the_order.Goals as goal

pub returns : goal.returns
returns c = told_comes_first
