use Rattle.std.proofs.Common.{◌∙◌, ap, ℤ, pos, ◌+ℤ◌, rules, arith, SFits, w32}
use Rattle.std.specs.Int.{int_max, int_min}
use Rattle.std.proofs.lemmas.Int.{ints, clamps, to_z-of_z}
use Rattle.control_values.specs.Settings.{nearest}
use Rattle.list_view.proofs.AxisLemmas.{saturated_nearest}
use Rattle.list_view.proofs.axis.Axis.scrolled.Goals as goal

pub returns-clause-value : goal.returns-clause-value
returns-clause-value c =
    let first : SFits w32 c.args.first = c.ranges.first in
    let lines : SFits w32 c.args.lines = c.ranges.lines in
    let sum_fits : SFits w32 c.saturating_add.result = search rules in
    let bound_fits : SFits w32 c.bound-bound.result = search rules in
    let least_fits : SFits w32 c.min.result = search rules in
    let most_fits : SFits w32 c.max.result = search rules in
    let sum = simp to_z-of_z at c.saturating_add.ensures in
    let least = simp to_z-of_z at c.min.ensures.value in
    let most = simp to_z-of_z at c.max.ensures.value in
    let bound = c.bound-bound.ensures in
    simp to_z-of_z (most ∙ ap (λ (z : ℤ). int_max z (pos 0)) least ∙ ap (λ (z : ℤ). int_max (int_min z c.bound-bound.result) (pos 0)) sum
    ∙ saturated_nearest (c.args.first +ℤ c.args.lines) c.bound-bound.result bound.line ∙ ap (λ (z : ℤ). nearest (pos 0) z (c.args.first +ℤ c.args.lines)) bound.value)

pub returns-clause-line : goal.returns-clause-line
returns-clause-line c = record { least = omega (arith, ints, clamps); most = omega (arith, ints, clamps) }
