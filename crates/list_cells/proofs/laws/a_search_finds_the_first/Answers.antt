use Rattle.list_cells.proofs.LawLemmas.{search_first}
use Rattle.list_cells.proofs.laws.a_search_finds_the_first.Goals as goal

pub returns-clause-first : goal.returns-clause-first
returns-clause-first c = search_first
