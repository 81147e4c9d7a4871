use Rattle.std.proofs.Common.{◌∙◌, sym, subst, ℕ, ◌<ℤ◌, pos, rules, SFits, w32}
use Rattle.std.proofs.lemmas.Int.{to_z-of_z}
use Rattle.list_view.specs.Axes.{lines_end}
use Rattle.list_view.proofs.ReachLemmas.{column_reached}
use Rattle.list_view.proofs.view.ListView.columns_end.Goals as goal

pub returns-clause-reaches : goal.returns-clause-reaches
returns-clause-reaches c = λ cell p few holds.
    let first_fits : SFits w32 c.first-first.result.column = search rules in
    let value = simp to_z-of_z at c.lines_end.ensures.value in
    let is = value ∙ (λ i. lines_end (c.across.ensures.value i) c.args.columns (c.first-first.ensures.value i).column) in
    let reached = column_reached c.args.self c.args.columns cell p c.first-first.ensures.told few holds in
    (reached.from, subst (λ (n : ℕ). cell.column <ℤ pos n) (sym is) reached.before)
