use Rattle.desk_laws.proofs.FindWindowLaws.{window_is_found_by_owner}
use Rattle.desk_laws.proofs.laws.a_window_is_found_by_the_owner_of_the_pixel.Goals as goal

pub returns : goal.returns
returns c = window_is_found_by_owner
