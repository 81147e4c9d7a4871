use Rattle.std.proofs.Common.{length, ap, ◌∙◌, length-append}
use Rattle.list_cells.specs.Contents.{Content}
use Rattle.list_cells.specs.Grids.{Grid}
use Rattle.list_cells.proofs.GridLemmas.{data_added}
use Rattle.list_cells.proofs.list.ListCells.add_to_cell.Goals as goal

pub invariant_of-self-2 : goal.invariant_of-self-2
invariant_of-self-2 c =
    let g : Grid = record { columns = c.self.inside.columns; rows = c.self.inside.rows; contents = c.self.inside.contents.items } in
    let old : Content = c.index_mut-content.result.now in
    data_added g c.args.self.now c.args.cell c.in_ok-place.place (length c.args.text.now) old c.append.new.self c.self.invariant c.self.view_is
    c.in_ok-place.ensures.0 c.in_ok-place.ensures.2 c.index_mut-content.ensures.value
    (ap (λ (x : Content). length x.bytes) c.in_ok-append.ensures ∙ length-append old.bytes c.args.text.now)
