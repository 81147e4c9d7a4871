use Rattle.list_cells.proofs.SelectionLemmas.{selecting_by}
use Rattle.list_mgr.proofs.selecting.ToggledToggling.invert.Goals as goal

pub returns-clause-drawn : goal.returns-clause-drawn
returns-clause-drawn g c = c.toggle_cells.ensures.drawn _ (selecting_by c.args.self.now.list.now.kept.cells c.args.self.now.selecting)
