use Rattle.std.proofs.Common.{◌∙◌, sym, subst, ℕ, ◌<ℤ◌, pos, rules, SFits, w32}
use Rattle.std.proofs.lemmas.Int.{to_z-of_z}
use Rattle.list_view.specs.Axes.{lines_end}
use Rattle.list_view.proofs.ReachLemmas.{row_reached}
use Rattle.list_view.proofs.view.ListView.rows_end.Goals as goal

pub returns-clause-reaches : goal.returns-clause-reaches
returns-clause-reaches c = λ cell p few holds.
    let first_fits : SFits w32 c.first-first.result.row = search rules in
    let value = simp to_z-of_z at c.lines_end.ensures.value in
    let is = value ∙ (λ i. lines_end (c.down.ensures.value i) c.args.rows (c.first-first.ensures.value i).row) in
    let reached = row_reached c.args.self c.args.rows cell p c.first-first.ensures.told few holds in
    (reached.from, subst (λ (n : ℕ). cell.row <ℤ pos n) (sym is) reached.before)
