use Rattle.std.proofs.Common.{◌≡◌, sym, ap, ◌∙◌, rules, SFits, w32}
use lib.Pointwise.{pointwise}
use Rattle.std.specs.Ordering.{int_eq}
use Rattle.std.proofs.lemmas.Int.{ints}
use Rattle.region_rows.proofs.Edges.{same_from_test, test_itself}
use Rattle.region_rows.proofs.row.Row.is_same.Goals as goal

pub returns-then-self-other : goal.returns-then-self-other
returns-then-self-other c =
    let p = c.self.inside in
    let q = c.other.inside in
    let fits_p : SFits w32 p.v = search rules in
    let fits_q : SFits w32 q.v = search rules in
    let v : p.v ≡ q.v = search (rules, ints) in
    let test = simp (c.as_slice.ensures, c.as_slice-then-self-other.ensures) at c.eq.ensures in (
      λ t. sym c.self.view_is ∙ (λ i. (v i, same_from_test p.points.items q.points.items (sym test ∙ t) i)) ∙ c.other.view_is,
      λ e. test ∙ ap (λ xs. pointwise int_eq p.points.items xs) (sym (ap (λ r. r.1) (c.self.view_is ∙ e ∙ sym c.other.view_is))) ∙ test_itself p.points.items,
    )
