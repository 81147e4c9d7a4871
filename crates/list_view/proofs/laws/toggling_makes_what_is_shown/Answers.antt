use Rattle.list_view.proofs.TurnLemmas.{turned_shows}
use Rattle.list_view.proofs.laws.toggling_makes_what_is_shown.Goals as goal

pub returns : goal.returns
returns c = turned_shows
