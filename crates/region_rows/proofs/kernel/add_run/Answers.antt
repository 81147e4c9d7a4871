use Rattle.std.proofs.Common.{◌++◌, ◌-ℤ◌, pos, ap, ◌∙◌, arith, SFits, w32}
use Rattle.std.proofs.lemmas.Int.{ints, to_z-of_z}
use Rattle.region_rows.specs.Edges.{only}
use Rattle.region_rows.proofs.Climbs.{coordinate_fits}
use mathlib.Core.Bool.{beq}
use Rattle.region_rows.proofs.Edges.{beq-alike}
use Rattle.region_rows.proofs.RunEdges.{part, zero_even, count_none, run_added, IsAdded}
use Rattle.region_rows.proofs.kernel.add_run.Goals as goal

pub count_to-from-requires-clause-odd : goal.count_to-from-requires-clause-odd
count_to-from-requires-clause-odd c = zero_even

pub returns : goal.returns
returns c =
    let left = c.args.left in
    let right = c.args.right in
    let xs = c.args.edges.now in
    let fits_l = c.ranges.left in
    let fits_r = c.ranges.right in
    let order = c.requires.order in
    let low = c.requires.left_in.0 in
    let high = c.requires.right_in.1 in
    let fits : SFits w32 (c.args.right -ℤ pos 1) = coordinate_fits _ (omega (arith, ints)) (omega (arith, ints)) in
    let from = (simp to_z-of_z at c.count_to-from.ensures.count) left (omega (arith, ints)) (count_none xs left) in
    let to = (simp to_z-of_z at c.count_to-to.ensures.count) left (omega (arith, ints)) from.counted in
    let first = simp to_z-of_z at c.in_ok-push_if.ensures in
    let last = simp to_z-of_z at c.in_ok-push_if-2.ensures in
    let added : IsAdded c.args.out.now.items c.push_if-2.new.edges.items c.args.within xs left right =
    run_added _ _ xs _ _ _ _ _ _ _ left right c.requires.edges from to c.count_to-to.ensures.on c.count_to-from.ensures.odd c.count_to-to.ensures.odd order c.requires.left_in c.requires.right_in (beq-alike c.args.within c.count_to-from.result.inside) (beq-alike c.args.within c.count_to-to.result.inside)
    (last ∙ ap (λ l. l ++ only (beq c.args.within c.count_to-to.result.inside) right) (c.in_ok-push_all.ensures ∙ ap (λ l. l ++ part xs c.count_to-from.result.next c.count_to-to.result.next) first)) in
    record { climb = added.climb; pixels = added.pixels }
