use Rattle.std.proofs.Common.{arith, rules, get_or, pos, ◌<ℤ◌, ◌≤ℤ◌, SFits, w32, ap, ◌∙◌, not}
use Rattle.std.proofs.lemmas.Int.{ints, to_z-of_z}
use Rattle.region_bytes.proofs.Edges.{is_odd-more}
use Rattle.region_rows.proofs.RunEdges.{count_more}
use Rattle.region_rows.proofs.kernel.count_to.Goals as goal

pub loop-at-preserved : goal.loop-at-preserved
loop-at-preserved c =
    let fits_x = c.ranges.x in
    let s = c.loop-at.invariant in
    let fits : SFits w32 (get_or c.args.edges.now c.loop-at.at.next (pos 0)) = search rules in
    let here : get_or c.args.edges.now c.loop-at.at.next (pos 0) ≤ℤ c.args.x = search (rules, ints) in
    record {
      within = omega arith;
      odd = is_odd-more c.loop-at.at.next ∙ ap not s.odd;
      on = omega arith;
      count = simp to_z-of_z (λ w l t. count_more _ _ _ ((simp to_z-of_z at s.count) w l t) c.loop-at-test.true here);
    }

pub returns-then-x-edges-clause-count : goal.returns-then-x-edges-clause-count
returns-then-x-edges-clause-count c =
    let fits_x = c.ranges.x in
    let fits : SFits w32 (get_or c.args.edges.now c.loop-at.at.next (pos 0)) = search rules in
    let s = c.loop-at.invariant in
    let ahead : c.args.x <ℤ get_or c.args.edges.now c.loop-at.at.next (pos 0) = search (rules, ints) in
    λ w l t. record { counted = (simp to_z-of_z at s.count) w l t; ahead = λ m. ahead }

pub returns-clause-count : goal.returns-clause-count
returns-clause-count c =
    let fits_x = c.ranges.x in
    let s = c.loop-at.invariant in
    λ w l t. record { counted = (simp to_z-of_z at s.count) w l t; ahead = λ m. absurd (omega arith) }
