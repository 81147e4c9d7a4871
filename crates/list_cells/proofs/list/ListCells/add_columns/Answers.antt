use Rattle.std.proofs.Common.{◌+◌, arith}
use Rattle.list_cells.specs.Grids.{Grid}
use Rattle.list_cells.proofs.ByteLemmas.{held_after, opened_held, in_rows_held}
use Rattle.list_cells.proofs.GridLemmas.{columns_more}
use Rattle.list_cells.proofs.list.ListCells.add_columns.Goals as goal

pub invariant_of-self-2 : goal.invariant_of-self-2
invariant_of-self-2 c =
    let h = c.in_ok-run.ensures in
    let run = c.in_ok-run.run' in
    let r = c.in_ok-reserve.ensures in
    let g : Grid = record { columns = c.self.inside.columns; rows = c.self.inside.rows; contents = c.self.inside.contents.items } in
    columns_more g _ run.count c.self.invariant h.2 h.3 (λ i. g.columns + run.count) (λ i. g.rows)
    (omega (arith, c.open_rows.ensures.len, c.open_rows.new.contents.ok.0, c.reserve.new.self.ok.0, r.len, c.self.inside.contents.ok.0))
    (held_after _ (in_rows_held _ _ _ (opened_held _ _)) _ _ _ r.items c.open_rows.ensures.items)
