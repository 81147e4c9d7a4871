use Rattle.std.proofs.Common.{arith, rules, SFits, w32, pos, ◌+ℤ◌, ◌-ℤ◌}
use Rattle.std.proofs.lemmas.Int.{ints, to_z-of_z}
use Rattle.text_record.proofs.ShowLemmas.{across_before, across_behind, across_not}
use Rattle.text_record.proofs.showing.moved_across.Goals as goal

pub returns-then-column-first-clause-value : goal.returns-then-column-first-clause-value
returns-then-column-first-clause-value c =
    let left : SFits w32 c.args.left = search rules in
    let beside : SFits w32 c.args.beside = search rules in
    let first : SFits w32 c.args.first = search rules in
    let column : SFits w32 (c.args.left +ℤ c.args.beside) = search (arith, ints) in
    let moved : SFits w32 (c.args.first -ℤ c.args.beside) = search (arith, ints) in
    let before = simp to_z-of_z at c.if-column-first.true in
    simp to_z-of_z (across_before c.args.left c.args.beside c.args.first c.args.end before)

pub returns-then-end-column-clause-value : goal.returns-then-end-column-clause-value
returns-then-end-column-clause-value c =
    let left : SFits w32 c.args.left = search rules in
    let beside : SFits w32 c.args.beside = search rules in
    let first : SFits w32 c.args.first = search rules in
    let end : SFits w32 c.args.end = search rules in
    let column : SFits w32 (c.args.left +ℤ c.args.beside) = search (arith, ints) in
    let last : SFits w32 (c.args.end -ℤ pos 1) = search (arith, ints) in
    let moved : SFits w32 ((c.args.end -ℤ pos 1) -ℤ c.args.beside) = search (arith, ints) in
    let before = simp to_z-of_z at c.if-column-first.false in
    let behind = simp to_z-of_z at c.if-end-column.true in
    simp to_z-of_z (across_behind c.args.left c.args.beside c.args.first c.args.end before behind)

pub returns-else-end-column-clause-value : goal.returns-else-end-column-clause-value
returns-else-end-column-clause-value c =
    let left : SFits w32 c.args.left = search rules in
    let beside : SFits w32 c.args.beside = search rules in
    let first : SFits w32 c.args.first = search rules in
    let end : SFits w32 c.args.end = search rules in
    let column : SFits w32 (c.args.left +ℤ c.args.beside) = search (arith, ints) in
    let before = simp to_z-of_z at c.if-column-first.false in
    let behind = simp to_z-of_z at c.if-end-column.false in
    simp to_z-of_z (across_not c.args.left c.args.beside c.args.first c.args.end before behind)
