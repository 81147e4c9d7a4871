use Rattle.std.proofs.lemmas.Int.{to_z-of_z}
use Rattle.std.proofs.Common.{◌-◌, refl, nat_abs, ◌∙◌, arith}
use Rattle.list_cells.specs.Runs.{count_to_delete}
use Rattle.list_cells.specs.Grids.{Grid}
use Rattle.list_cells.proofs.ByteLemmas.{held_after, closed_held, passed_held}
use Rattle.list_cells.proofs.GridLemmas.{lines_within, rows_left, rows_deleted_is}
use Rattle.list_cells.proofs.list.ListCells.delete_rows.Goals as goal

pub pass_closed-requires-clause-place : goal.pass_closed-requires-clause-place
pass_closed-requires-clause-place c =
    let h = c.in_ok-run.ensures in
    let l = lines_within c.in_ok-run.run'.at c.in_ok-run.run'.count c.self.inside.rows c.self.inside.columns h.2 in
    omega (arith, l, c.len-all.ensures, c.self.inside.contents.ok.0, c.self.invariant.shape)

pub invariant_of-self : goal.invariant_of-self
invariant_of-self c =
    let h = c.in_ok-run.ensures in
    let g : Grid = record { columns = c.self.inside.columns; rows = c.self.inside.rows; contents = c.self.inside.contents.items } in
    let run = c.in_ok-run.run' in
    rows_left g _ run.count c.self.invariant (omega (arith, h.2)) (λ i. g.columns) (λ i. g.rows - run.count)
    (omega (arith, c.pass_closed.ensures.len, c.pass_closed.new.contents.ok.0, c.self.inside.contents.ok.0))
    (held_after _ (passed_held _ _ (closed_held _ _)) _ _ _ refl c.pass_closed.ensures.items)

pub returns-clause-cells : goal.returns-clause-cells
returns-clause-cells c =
    let h = c.in_ok-run.ensures in
    let run_is = simp (to_z-of_z, c.ranges.count, c.ranges.first) at h.1 in
    let g : Grid = record { columns = c.self.inside.columns; rows = c.self.inside.rows; contents = c.self.inside.contents.items } in
    rows_deleted_is g c.args.self.now c.in_ok-run.run' (λ (s : Grid). nat_abs c.args.first) (λ (s : Grid). count_to_delete s.rows c.args.count c.args.first) c.pass_closed.new.contents.items c.len-all.result
    c.self.view_is run_is (c.len-all.ensures ∙ c.self.inside.contents.ok.0) c.pass_closed.ensures.items
