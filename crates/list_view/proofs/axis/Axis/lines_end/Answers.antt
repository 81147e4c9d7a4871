use Rattle.std.proofs.Common.{◌∙◌, pos, ◌-ℤ◌, rules, arith, SFits, w32}
use Rattle.std.proofs.lemmas.Int.{ints, to_z-of_z}
use Rattle.list_view.proofs.ReachLemmas.{lines_end_is}
use Rattle.list_view.proofs.axis.Axis.lines_end.Goals as goal

pub returns-clause-value : goal.returns-clause-value
returns-clause-value c =
    let axis = c.requires.axis in
    let first : SFits w32 c.args.first = c.ranges.first in
    let end : SFits w32 c.end.result = search rules in
    let before_end : SFits w32 (c.end.result -ℤ pos 1) = search (arith, ints) in
    let last : SFits w32 c.line_at-last.result = search rules in
    let last_is = simp to_z-of_z at c.line_at-last.ensures.value in
    simp to_z-of_z at c.min.ensures
    ∙ lines_end_is c.args.self c.args.count c.args.first c.end.result c.line_at-last.result c.end.ensures last_is c.line_at-last.ensures.counted
