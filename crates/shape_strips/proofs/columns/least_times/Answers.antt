use Rattle.std.proofs.Common.{pos, ◌+ℤ◌, ◌≤ℤ◌, ◌<ℤ◌, arith, SFits, w64}
use Rattle.std.specs.Prelude.{int_div, int_rem}
use Rattle.std.proofs.lemmas.Int.{ints, to_z-of_z, quot_is, rem_is, quot_fits}
use Rattle.shape_strips.proofs.ColumnLemmas.{quotient, least_even, least_odd, next_fits}
use Rattle.shape_strips.proofs.columns.least_times.Goals as goal

pub returns-then-least-step-gt0 : goal.returns-then-least-step-gt0
returns-then-least-step-gt0 c =
    let n = c.args.least in
    let s = c.args.step in
    let is = quotient c.args.least c.args.step c.requires.rising in
    let fits : SFits w64 (int_div c.args.least c.args.step) = quot_fits w64 c.args.least c.args.step c.ranges.least c.requires.rising in
    let q = quot_is w64 c.args.least c.args.step c.ranges.least c.ranges.step fits in
    let r = rem_is w64 c.args.least c.args.step c.ranges.least c.ranges.step in
    let test = c.if-least-step-gt0.true in
    let some : pos 0 <ℤ int_rem c.args.least c.args.step = omega (arith, ints) in
    let more : SFits w64 (int_div c.args.least c.args.step +ℤ pos 1) = next_fits c.args.least c.args.step (int_div c.args.least c.args.step) (int_rem c.args.least c.args.step) c.requires.rising is fits c.requires.least_in c.requires.small in
    λ x. rw q (rw (to_z-of_z w64 (int_div c.args.least c.args.step +ℤ pos 1) more) (least_odd c.args.least c.args.step (int_div c.args.least c.args.step) (int_rem c.args.least c.args.step) c.requires.rising is some x))

pub returns-else-least-step-gt0 : goal.returns-else-least-step-gt0
returns-else-least-step-gt0 c =
    let is = quotient c.args.least c.args.step c.requires.rising in
    let fits : SFits w64 (int_div c.args.least c.args.step) = quot_fits w64 c.args.least c.args.step c.ranges.least c.requires.rising in
    let q = quot_is w64 c.args.least c.args.step c.ranges.least c.ranges.step fits in
    let r = rem_is w64 c.args.least c.args.step c.ranges.least c.ranges.step in
    let test = c.if-least-step-gt0.false in
    let none : int_rem c.args.least c.args.step ≤ℤ pos 0 = omega (arith, ints) in
    λ x. rw q (least_even c.args.least c.args.step (int_div c.args.least c.args.step) (int_rem c.args.least c.args.step) c.requires.rising is none x)
