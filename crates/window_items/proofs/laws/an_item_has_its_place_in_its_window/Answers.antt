use Rattle.window_items.proofs.WindowLemmas.{position-items_of}
use Rattle.window_items.proofs.laws.an_item_has_its_place_in_its_window.Goals as goal

pub returns-clause-place : goal.returns-clause-place
returns-clause-place g c = λ window serial items. position-items_of window serial items
