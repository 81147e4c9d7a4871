use Rattle.std.proofs.Common.{◌≡◌, pos, true, false, sym, ◌∙◌, rules, SFits, w32}
use Rattle.std.proofs.lemmas.Int.{ints, to_z-of_z}
use Rattle.region_bytes.proofs.Scanned.{ends, top_low, top_next, row_ends, row_odd, row_empty, column_low, column_next, from_le, from_gt}
use Rattle.region_bytes.proofs.judge.read_word.Goals as goal
use Rattle.region_bytes.proofs.judge.read_word.Goals.{then-at-via-then-at, then-at-via-else-at+then-at-leminus32769}

pub returns-then-word-eq-END : goal.returns-then-word-eq-END
returns-then-word-eq-END c = λ ws e. let fw = c.ranges.word in let a : c.args.at.within ≡ false = search rules in let b : c.args.word ≡ pos 32767 = search (rules, ints) in e ∙ sym (ends c.args.at c.args.word ws a b)

pub returns-then-word-at : goal.returns-then-word-at
returns-then-word-at c = λ ws e.
    let fw = c.ranges.word in
    let fv : SFits w32 c.args.at.v = search rules in
    let a : c.args.at.within ≡ false = search rules in
    let b : c.args.word ≡ pos 32767 → ⊥ = search (rules, ints) in
    let t = simp to_z-of_z at c.if-word-at.true in
    sym (top_low c.args.at c.args.word ws a b (from_le _ _ t))

pub returns-then-not-at : goal.returns-then-not-at
returns-then-not-at c = λ ws e.
    let fw = c.ranges.word in
    let fv : SFits w32 c.args.at.v = search rules in
    let a : c.args.at.within ≡ false = search rules in
    let b : c.args.word ≡ pos 32767 → ⊥ = search (rules, ints) in
    let t = simp to_z-of_z at c.if-word-at.false in
    simp to_z-of_z (sym (top_next c.args.at c.args.word ws a b (from_gt _ _ t)))

pub returns-then-at : goal.returns-then-at
returns-then-at c = λ ws e.
    let fw = c.ranges.word in
    let fh : SFits w32 c.args.at.h = search rules in
    let a : c.args.at.within ≡ true = search rules in
    let b : c.args.word ≡ pos 32767 = search (rules, ints) in
    elim c.then-at.branch [
      | then-at-via-then-at w ↦ sym (row_odd c.args.at c.args.word ws a b w.if-at.true)
      | then-at-via-else-at+then-at-leminus32769 w ↦ (let t = simp to_z-of_z at w.if-at-leminus32769.true in sym (row_empty c.args.at c.args.word ws a b (from_le _ _ t)))
    ]

pub returns-then-word-eq-END-2 : goal.returns-then-word-eq-END-2
returns-then-word-eq-END-2 c = λ ws e.
    let fw = c.ranges.word in
    let fv : SFits w32 c.args.at.v = search rules in
    let fh : SFits w32 c.args.at.h = search rules in
    let a : c.args.at.within ≡ true = search rules in
    let b : c.args.word ≡ pos 32767 = search (rules, ints) in
    let t = simp to_z-of_z at c.if-at-leminus32769.false in
    simp to_z-of_z (sym (row_ends c.args.at c.args.word ws a b c.if-at.false (from_gt _ _ t)))

pub returns-then-word-at-2 : goal.returns-then-word-at-2
returns-then-word-at-2 c = λ ws e.
    let fw = c.ranges.word in
    let fh : SFits w32 c.args.at.h = search rules in
    let a : c.args.at.within ≡ true = search rules in
    let b : c.args.word ≡ pos 32767 → ⊥ = search (rules, ints) in
    let t = simp to_z-of_z at c.if-word-at-2.true in
    sym (column_low c.args.at c.args.word ws a b (from_le _ _ t))

pub returns : goal.returns
returns c = λ ws e.
    let fw = c.ranges.word in
    let fv : SFits w32 c.args.at.v = search rules in
    let fh : SFits w32 c.args.at.h = search rules in
    let a : c.args.at.within ≡ true = search rules in
    let b : c.args.word ≡ pos 32767 → ⊥ = search (rules, ints) in
    let t = simp to_z-of_z at c.if-word-at-2.false in
    simp to_z-of_z (sym (column_next c.args.at c.args.word ws a b (from_gt _ _ t)))
