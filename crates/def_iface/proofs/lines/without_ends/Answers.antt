use Rattle.std.proofs.Common.{SFits, w32, rules, arith, ap, ◌∙◌}
use Rattle.std.specs.Int.{int_min, int_max}
use Rattle.std.proofs.lemmas.Int.{ints, to_z-of_z}
use Rattle.def_iface.proofs.LineLemmas.{after_first_is, before_last_is}
use Rattle.def_iface.proofs.lines.without_ends.Goals as goal

pub returns-clause-begin : goal.returns-clause-begin
returns-clause-begin c =
    let f : SFits w32 c.args.first = search rules in
    let e : SFits w32 c.args.end = search rules in
    let s : SFits w32 c.saturating_add.result = search rules in
    let m : SFits w32 c.min-begin.result = search rules in
    let value = simp to_z-of_z at c.min-begin.ensures.value in
    let near = simp to_z-of_z at c.saturating_add.ensures in
    simp to_z-of_z (value ∙ ap (int_min c.args.end) near ∙ after_first_is c.args.first c.args.end (omega (arith, ints)) (omega (arith, ints)))

pub returns-clause-end : goal.returns-clause-end
returns-clause-end c =
    let e : SFits w32 c.args.end = search rules in
    let b : SFits w32 c.min-begin.result = search rules in
    let s : SFits w32 c.saturating_sub.result = search rules in
    let m : SFits w32 c.max.result = search rules in
    let value = simp to_z-of_z at c.max.ensures.value in
    let near = simp to_z-of_z at c.saturating_sub.ensures in
    simp to_z-of_z (value ∙ ap (int_max c.min-begin.result) near ∙ before_last_is c.min-begin.result c.args.end (omega (arith, ints)) (omega (arith, ints)))
