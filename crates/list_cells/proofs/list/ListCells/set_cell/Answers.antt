use Rattle.std.proofs.Common.{length, ap}
use Rattle.list_cells.specs.Contents.{Content}
use Rattle.list_cells.specs.Grids.{Grid}
use Rattle.list_cells.proofs.GridLemmas.{data_set}
use Rattle.list_cells.proofs.list.ListCells.set_cell.Goals as goal

pub invariant_of-self-2 : goal.invariant_of-self-2
invariant_of-self-2 c =
    let g : Grid = record { columns = c.self.inside.columns; rows = c.self.inside.rows; contents = c.self.inside.contents.items } in
    data_set g c.args.self.now c.args.cell c.in_ok-place.place (length c.args.text.now) c.set.new.self c.self.invariant c.self.view_is
    c.in_ok-place.ensures.0 c.in_ok-place.ensures.1 c.in_ok-place.ensures.2 (ap (λ (x : Content). length x.bytes) c.in_ok-set.ensures)
