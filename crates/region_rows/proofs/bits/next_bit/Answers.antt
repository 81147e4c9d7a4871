use Rattle.std.proofs.Common.{◌/◌, ◌%◌, ◌^◌, ◌<◌, get_or, arith, inl, inr, subst, ap, ◌∙◌}
use Rattle.region_rows.specs.Bits.{has_bit}
use Rattle.std.proofs.lemmas.Bool.{cases_lt}
use Rattle.region_rows.proofs.BitPlaces.{none_in_rest, first_here, none_before, not_zero, fits_word, below_min, first_min}
use Rattle.region_rows.proofs.bits.next_bit.Goals as goal

pub returns-then-rest-ne0-clause-none : goal.returns-then-rest-ne0-clause-none
returns-then-rest-ne0-clause-none c = λ k a b.
    let words = c.args.words.now in
    let fits : get_or c.args.words.now (c.loop-at.at / 64) 0 < 2 ^ 64 = fits_word words c.type_inv.words (c.loop-at.at / 64) in
    let some : 0 < get_or c.args.words.now (c.loop-at.at / 64) 0 / 2 ^ (c.loop-at.at % 64) = not_zero _ c.if-rest-ne0.true in
    elim (cases_lt k c.loop-at.at) [
      | inl l ↦ c.loop-at.invariant.none k a l
      | inr l ↦ none_before words c.loop-at.at fits some k l (below_min k c.args.to _ (subst (λ q. k < q) c.min.ensures b)).1
    ]

pub returns-then-rest-ne0-clause-here : goal.returns-then-rest-ne0-clause-here
returns-then-rest-ne0-clause-here c = λ l.
    let words = c.args.words.now in
    let fits : get_or c.args.words.now (c.loop-at.at / 64) 0 < 2 ^ 64 = fits_word words c.type_inv.words (c.loop-at.at / 64) in
    let some : 0 < get_or c.args.words.now (c.loop-at.at / 64) 0 / 2 ^ (c.loop-at.at % 64) = not_zero _ c.if-rest-ne0.true in
    ap (has_bit words) (c.min.ensures ∙ first_min c.args.to _ (subst (λ q. q < c.args.to) c.min.ensures l)) ∙ first_here words c.loop-at.at fits some

pub loop-at-preserved : goal.loop-at-preserved
loop-at-preserved c =
    let words = c.args.words.now in
    let on = c.loop-at.invariant.on in
    record {
      on = omega arith;
      none = λ k a b. elim (cases_lt k c.loop-at.at) [
        | inl l ↦ c.loop-at.invariant.none k a l
        | inr l ↦ none_in_rest words c.loop-at.at k c.if-rest-ne0.false l b
      ];
    }
