use Rattle.std.proofs.Common.{ap, ℤ, ◌+ℤ◌, ◌-ℤ◌, rules, arith, SFits, w32}
use Rattle.std.proofs.lemmas.Int.{ints, to_z-of_z}
use Rattle.list_view.proofs.axis.Axis.line_start.Goals as goal

pub returns-clause-value : goal.returns-clause-value
returns-clause-value c =
    let first : SFits w32 c.args.first = c.ranges.first in
    let start : SFits w32 c.args.self.start = search rules in
    let cell : SFits w32 c.args.self.cell = search rules in
    let line : SFits w32 c.args.line = c.ranges.line in
    let from_first : SFits w32 (c.args.line -ℤ c.args.first) = search (arith, ints) in
    let pixels : SFits w32 c.pixels_of.result = search rules in
    let sum : SFits w32 (c.args.self.start +ℤ c.pixels_of.result) = search (arith, ints) in
    let value = simp to_z-of_z at c.pixels_of.ensures.value in
    simp to_z-of_z (ap (λ (z : ℤ). c.args.self.start +ℤ z) value)

pub returns-clause-near : goal.returns-clause-near
returns-clause-near c =
    let axis = c.requires.axis in
    let start = axis.start_in_range in
    let end = axis.end_in_range in
    let some = axis.some in
    record { least = omega (arith, ints); most = omega (arith, ints) }
