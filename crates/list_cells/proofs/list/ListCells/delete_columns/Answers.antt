use Rattle.std.proofs.Common.{◌-◌, refl, arith}
use Rattle.list_cells.specs.Grids.{Grid}
use Rattle.list_cells.proofs.ByteLemmas.{held_after, closed_held, in_rows_held}
use Rattle.list_cells.proofs.GridLemmas.{columns_left}
use Rattle.list_cells.proofs.list.ListCells.delete_columns.Goals as goal

pub invariant_of-self : goal.invariant_of-self
invariant_of-self c =
    let h = c.in_ok-run.ensures in
    let g : Grid = record { columns = c.self.inside.columns; rows = c.self.inside.rows; contents = c.self.inside.contents.items } in
    let run = c.in_ok-run.run' in
    columns_left g _ run.count c.self.invariant (omega (arith, h.2)) (λ i. g.columns - run.count) (λ i. g.rows)
    (omega (arith, c.close_rows.ensures.len, c.close_rows.new.contents.ok.0, c.self.inside.contents.ok.0))
    (held_after _ (in_rows_held _ _ _ (closed_held _ _)) _ _ _ refl c.close_rows.ensures.items)
