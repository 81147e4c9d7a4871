use Rattle.std.proofs.Common.{arith, rules, SFits, w32, ◌+ℤ◌, ◌-ℤ◌}
use Rattle.std.proofs.lemmas.Int.{ints, to_z-of_z}
use Rattle.text_record.proofs.ShowLemmas.{down_before, down_not, down_to_top, down_to_bottom}
use Rattle.text_record.proofs.showing.moved_down.Goals as goal

pub returns-then-row-first-clause-value : goal.returns-then-row-first-clause-value
returns-then-row-first-clause-value c =
    let top : SFits w32 c.args.top = search rules in
    let below : SFits w32 c.args.below = search rules in
    let rows : SFits w32 c.args.rows = search rules in
    let first : SFits w32 c.args.first = search rules in
    let end : SFits w32 c.args.end = search rules in
    let row : SFits w32 (c.args.top +ℤ c.args.below) = search (arith, ints) in
    let moved : SFits w32 (c.args.first -ℤ c.args.below) = search (arith, ints) in
    let before = simp to_z-of_z at c.if-row-first.true in
    simp to_z-of_z (down_before c.args.top c.args.below c.args.rows c.args.first c.args.end before)

pub returns-then-after-end-clause-value : goal.returns-then-after-end-clause-value
returns-then-after-end-clause-value c =
    let top : SFits w32 c.args.top = search rules in
    let below : SFits w32 c.args.below = search rules in
    let rows : SFits w32 c.args.rows = search rules in
    let first : SFits w32 c.args.first = search rules in
    let end : SFits w32 c.args.end = search rules in
    let row : SFits w32 (c.args.top +ℤ c.args.below) = search (arith, ints) in
    let after : SFits w32 ((c.args.top +ℤ c.args.below) +ℤ c.args.rows) = search (arith, ints) in
    let before = simp to_z-of_z at c.if-row-first.false in
    let room = simp to_z-of_z at c.if-after-end.true in
    simp to_z-of_z (down_not c.args.top c.args.below c.args.rows c.args.first c.args.end before room)

pub returns-then-row-first-2-clause-value : goal.returns-then-row-first-2-clause-value
returns-then-row-first-2-clause-value c =
    let top : SFits w32 c.args.top = search rules in
    let below : SFits w32 c.args.below = search rules in
    let rows : SFits w32 c.args.rows = search rules in
    let first : SFits w32 c.args.first = search rules in
    let end : SFits w32 c.args.end = search rules in
    let row : SFits w32 (c.args.top +ℤ c.args.below) = search (arith, ints) in
    let after : SFits w32 ((c.args.top +ℤ c.args.below) +ℤ c.args.rows) = search (arith, ints) in
    let high : SFits w32 ((c.args.top +ℤ c.args.below) -ℤ c.args.first) = search (arith, ints) in
    let low : SFits w32 (((c.args.top +ℤ c.args.below) +ℤ c.args.rows) -ℤ c.args.end) = search (arith, ints) in
    let moved : SFits w32 (c.args.first -ℤ c.args.below) = search (arith, ints) in
    let before = simp to_z-of_z at c.if-row-first.false in
    let none = simp to_z-of_z at c.if-after-end.false in
    let short = simp to_z-of_z at c.if-row-first-2.true in
    simp to_z-of_z (down_to_top c.args.top c.args.below c.args.rows c.args.first c.args.end before none short)

pub returns-else-row-first-2-clause-value : goal.returns-else-row-first-2-clause-value
returns-else-row-first-2-clause-value c =
    let top : SFits w32 c.args.top = search rules in
    let below : SFits w32 c.args.below = search rules in
    let rows : SFits w32 c.args.rows = search rules in
    let first : SFits w32 c.args.first = search rules in
    let end : SFits w32 c.args.end = search rules in
    let row : SFits w32 (c.args.top +ℤ c.args.below) = search (arith, ints) in
    let after : SFits w32 ((c.args.top +ℤ c.args.below) +ℤ c.args.rows) = search (arith, ints) in
    let high : SFits w32 ((c.args.top +ℤ c.args.below) -ℤ c.args.first) = search (arith, ints) in
    let low : SFits w32 (((c.args.top +ℤ c.args.below) +ℤ c.args.rows) -ℤ c.args.end) = search (arith, ints) in
    let both : SFits w32 (c.args.rows +ℤ c.args.below) = search (arith, ints) in
    let moved : SFits w32 (c.args.end -ℤ (c.args.rows +ℤ c.args.below)) = search (arith, ints) in
    let before = simp to_z-of_z at c.if-row-first.false in
    let none = simp to_z-of_z at c.if-after-end.false in
    let short = simp to_z-of_z at c.if-row-first-2.false in
    simp to_z-of_z (down_to_bottom c.args.top c.args.below c.args.rows c.args.first c.args.end before none short)

pub returns-else-row-first-2-clause-from : goal.returns-else-row-first-2-clause-from
returns-else-row-first-2-clause-from c =
    let below : SFits w32 c.args.below = search rules in
    let rows : SFits w32 c.args.rows = search rules in
    let end : SFits w32 c.args.end = search rules in
    let both : SFits w32 (c.args.rows +ℤ c.args.below) = search (arith, ints) in
    let moved : SFits w32 (c.args.end -ℤ (c.args.rows +ℤ c.args.below)) = search (arith, ints) in
    simp to_z-of_z (omega (arith, ints))

pub returns-else-row-first-2-clause-to : goal.returns-else-row-first-2-clause-to
returns-else-row-first-2-clause-to c =
    let below : SFits w32 c.args.below = search rules in
    let rows : SFits w32 c.args.rows = search rules in
    let end : SFits w32 c.args.end = search rules in
    let both : SFits w32 (c.args.rows +ℤ c.args.below) = search (arith, ints) in
    let moved : SFits w32 (c.args.end -ℤ (c.args.rows +ℤ c.args.below)) = search (arith, ints) in
    simp to_z-of_z (omega (arith, ints))
