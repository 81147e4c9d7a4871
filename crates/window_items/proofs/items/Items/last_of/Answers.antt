use Rattle.std.proofs.Common.{◌≡◌, ◌<◌, Some, length, take, get_or, ap, sym, subst, ◌∙◌, arith}
use Rattle.std.specs.Prelude.{IfSome}
use Rattle.std.proofs.lemmas.Bool.{cond-true, cond-false}
use Rattle.std.proofs.lemmas.List.{length-take-le, take_all}
use Rattle.window_items.specs.Items.{is_in, last_index_of}
use Rattle.window_items.proofs.ListLemmas.{take_next, last_push, last_within}
use Rattle.window_items.proofs.items.Items.last_of.Goals as goal
use Rattle.window_items.proofs.items.Items.last_of.Goals.{then-is_in, else-is_in}

pub loop-at-preserved : goal.loop-at-preserved
loop-at-preserved g c =
    let xs = c.args.self.now.items.items in
    let window = c.args.window in
    let i = c.loop-at.at in
    let x = c.item-item.result in
    let all = ap length c.deref-item-items.ensures.value in
    let within : i < length xs = omega (arith, all, c.loop-at-test.true) in
    let read : x ≡ get_or xs i x = c.item-item.is ∙ ap (λ ys. get_or ys i x) c.deref-item-items.ensures.value in
    let long = length-take-le i xs (omega (arith, within)) in
    let more = ap (last_index_of window) (take_next xs i x within read) ∙ last_push window (take i xs) x in
    elim c.if-is_in.branch [
      | then-is_in w ↦ w.last-is ∙ ap Some (sym long) ∙ sym (cond-true (is_in window x) (Some (length (take i xs))) (last_index_of window (take i xs)) (sym c.is_in.ensures ∙ w.if-is_in.true)) ∙ sym more
      | else-is_in w ↦ w.last-is ∙ c.loop-at.invariant ∙ sym (cond-false (is_in window x) (Some (length (take i xs))) (last_index_of window (take i xs)) (sym c.is_in.ensures ∙ w.if-is_in.false)) ∙ sym more
    ]

pub returns-clause-within : goal.returns-clause-within
returns-clause-within g c =
    let xs = c.args.self.now.items.items in
    let window = c.args.window in
    let all = ap length c.deref-item-items.ensures.value in
    let is = c.loop-at.invariant ∙ ap (last_index_of window) (take_all c.loop-at.at xs (omega (arith, all, c.loop-at-test.false))) in
    subst (λ o. IfSome o (λ at. at < length xs)) (sym is) (last_within window xs)
