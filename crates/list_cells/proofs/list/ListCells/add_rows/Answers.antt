use Rattle.std.proofs.lemmas.Int.{to_z-of_z}
use Rattle.std.proofs.Common.{◌+◌, nat_abs, ◌∙◌, arith}
use Rattle.list_cells.specs.Runs.{place_to_add}
use Rattle.list_cells.specs.Grids.{Grid}
use Rattle.list_cells.proofs.ByteLemmas.{held_after, opened_held, passed_held}
use Rattle.list_cells.proofs.GridLemmas.{rows_more, rows_added_is}
use Rattle.list_cells.proofs.list.ListCells.add_rows.Goals as goal

pub invariant_of-self-2 : goal.invariant_of-self-2
invariant_of-self-2 c =
    let h = c.in_ok-run.ensures in
    let run = c.in_ok-run.run' in
    let r = c.in_ok-reserve.ensures in
    let g : Grid = record { columns = c.self.inside.columns; rows = c.self.inside.rows; contents = c.self.inside.contents.items } in
    rows_more g _ run.count c.self.invariant h.2 h.3 (λ i. g.columns) (λ i. g.rows + run.count)
    (omega (arith, c.pass_opened.ensures.len, c.pass_opened.new.contents.ok.0, c.reserve.new.self.ok.0, r.len, c.self.inside.contents.ok.0))
    (held_after _ (passed_held _ _ (opened_held _ _)) _ _ _ r.items c.pass_opened.ensures.items)

pub returns-clause-cells : goal.returns-clause-cells
returns-clause-cells c =
    let h = c.in_ok-run.ensures in
    let run_is = simp (to_z-of_z, c.ranges.count, c.ranges.before) at h.1 in
    let r = c.in_ok-reserve.ensures in
    let g : Grid = record { columns = c.self.inside.columns; rows = c.self.inside.rows; contents = c.self.inside.contents.items } in
    rows_added_is g c.args.self.now c.in_ok-run.run' (λ (s : Grid). place_to_add s.rows c.args.before) (λ (s : Grid). nat_abs c.args.count) c.pass_opened.new.contents.items c.reserve.new.self.items c.len-all.result
    c.self.view_is run_is (c.len-all.ensures ∙ c.reserve.new.self.ok.0) r.items c.pass_opened.ensures.items
