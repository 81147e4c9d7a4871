use Rattle.std.proofs.Common.{List, ap, ◌∙◌}
use Rattle.list_cells.specs.Contents.{Content}
use Rattle.list_cells.specs.Blocks.{smallest}
use Rattle.list_cells.specs.Grids.{Grid}
use Rattle.list_cells.proofs.SelectionLemmas.{extended}
use Rattle.list_cells.proofs.list.ListCells.clicking_at.Goals as goal

pub returns-in-Extends : goal.returns-in-Extends
returns-in-Extends c =
    rw (c.in-Extends.is, c.alone-in-Extends.ensures) (extended c.args.self.now c.args.place c.smallest_block.result
    (c.smallest_block.ensures ∙ ap (λ (cells : List Content). smallest c.self.inside.columns cells c.args.place) c.deref.ensures.value
    ∙ ap (λ (g : Grid). smallest g.columns g.contents c.args.place) c.self.view_is))
