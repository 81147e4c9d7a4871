use Rattle.std.proofs.Common.{ap, ℤ, ◌+ℤ◌, ◌-ℤ◌, rules, arith, SFits, w32}
use Rattle.std.proofs.lemmas.Int.{ints, to_z-of_z}
use Rattle.list_view.proofs.axis.Axis.line_at.Goals as goal

pub returns-clause-value : goal.returns-clause-value
returns-clause-value c =
    let first : SFits w32 c.args.first = c.ranges.first in
    let start : SFits w32 c.args.self.start = search rules in
    let cell : SFits w32 c.args.self.cell = search rules in
    let place : SFits w32 c.args.place = c.ranges.place in
    let axis = c.requires.axis in
    let from_start : SFits w32 (c.args.place -ℤ c.args.self.start) = search (arith, ints) in
    let cells : SFits w32 c.cells_in.result = search rules in
    let sum : SFits w32 (c.args.first +ℤ c.cells_in.result) = search (arith, ints) in
    let value = simp to_z-of_z at c.cells_in.ensures.value in
    simp to_z-of_z (ap (λ (z : ℤ). c.args.first +ℤ z) value)
