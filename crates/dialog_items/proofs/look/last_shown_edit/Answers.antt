use Rattle.std.proofs.Common.{◌<◌, length, ap, sym, subst, ◌∙◌, arith}
use Rattle.std.specs.Prelude.{IfSome}
use Rattle.std.proofs.lemmas.List.{take_all}
use Rattle.dialog_items.specs.Finding.{last_index}
use Rattle.dialog_items.proofs.LookLemmas.{next_shown, next_other, last_within}
use Rattle.dialog_items.proofs.look.last_shown_edit.Goals as goal
use Rattle.dialog_items.proofs.look.last_shown_edit.Goals.{then-is_shown_edit, else-is_shown_edit}

pub loop-at-preserved : goal.loop-at-preserved
loop-at-preserved c =
    let xs = c.args.looks.now in
    elim c.if-is_shown_edit.branch [
      | then-is_shown_edit w ↦ w.last-is ∙ next_shown xs c.loop-at.at _ c.loop-at-test.true (sym c.is_shown_edit.ensures ∙ w.if-is_shown_edit.true)
      | else-is_shown_edit w ↦ w.last-is ∙ c.loop-at.invariant ∙ next_other xs c.loop-at.at _ c.loop-at-test.true (sym c.is_shown_edit.ensures ∙ w.if-is_shown_edit.false)
    ]

pub returns-clause-within : goal.returns-clause-within
returns-clause-within c =
    let xs = c.args.looks.now in
    let is = c.loop-at.invariant ∙ ap last_index (take_all c.loop-at.at xs (omega (arith, c.loop-at-test.false))) in
    subst (λ o. IfSome o (λ at. at < length xs)) (sym is) (last_within xs)
