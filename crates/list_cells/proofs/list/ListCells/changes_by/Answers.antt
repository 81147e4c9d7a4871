use Rattle.std.proofs.Common.{subst}
use Rattle.list_cells.specs.Grids.{Grid}
use Rattle.list_cells.specs.Selections.{AreToggled}
use Rattle.list_cells.proofs.SelectionLemmas.{change_by}
use Rattle.list_cells.proofs.list.ListCells.changes_by.Goals as goal

pub returns-then-self-gt0 : goal.returns-then-self-gt0
returns-then-self-gt0 c after h =
    change_by c.are_toggled.result c.args.self.now after c.args.selecting
    (subst (λ (g : Grid). AreToggled c.are_toggled.result g.columns c.args.selecting g.contents) c.self.view_is
    (subst (AreToggled c.are_toggled.result c.self.inside.columns c.args.selecting) c.deref.ensures.value c.are_toggled.ensures)) h
