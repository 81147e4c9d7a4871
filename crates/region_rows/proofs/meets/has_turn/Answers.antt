use Rattle.std.proofs.Common.{◌≤ℤ◌, ◌<ℤ◌, refl, sym, ◌∙◌, subst, rules, SFits, w32}
use Rattle.std.proofs.lemmas.Int.{ints, to_z-of_z}
use Rattle.std.proofs.lemmas.Bool.{true≢false, false≢true}
use Rattle.region_rows.specs.Edges.{inside}
use Rattle.region_rows.specs.Meets.{HasBetween}
use Rattle.region_rows.proofs.MetRows.{turn_found, turn_passed, turn_none}
use Rattle.region_rows.proofs.meets.has_turn.Goals as goal

pub returns-then-bottom-v : goal.returns-then-bottom-v
returns-then-bottom-v c =
    let fits_b = c.ranges.bottom in
    let fits_l = c.ranges.left in
    let fits_r = c.ranges.right in
    let fits_v : SFits w32 c.v.result = search rules in
    let low : c.args.bottom ≤ℤ c.v.result = search (rules, ints) in
    let i = simp to_z-of_z at c.loop-row.invariant in
    (λ t. absurd (false≢true t), λ t. absurd (turn_none c.args.rows.now c.loop-row.row-index c.row-item.result c.args.bottom c.args.left c.args.right c.requires.rows c.loop-row-test.true c.row-item.is (subst (λ z. c.args.bottom ≤ℤ z) c.v.ensures low) i t))

pub returns-then-has_between : goal.returns-then-has_between
returns-then-has_between c =
    let fits_b = c.ranges.bottom in
    let fits_l = c.ranges.left in
    let fits_r = c.ranges.right in
    let fits_v : SFits w32 c.v.result = search rules in
    let up : c.v.result <ℤ c.args.bottom = search (rules, ints) in
    let t = (simp to_z-of_z at c.has_between.ensures).0 c.if-has_between.true in
    (λ _. turn_found c.args.rows.now c.loop-row.row-index c.row-item.result c.args.bottom c.args.left c.args.right c.loop-row-test.true c.row-item.is (subst (λ z. z <ℤ c.args.bottom) c.v.ensures up) (subst (λ xs. HasBetween c.args.left c.args.right (inside xs)) c.points.ensures t), λ s. refl)

pub loop-row-preserved : goal.loop-row-preserved
loop-row-preserved c =
    let fits_l = c.ranges.left in
    let fits_r = c.ranges.right in
    let i = simp to_z-of_z at c.loop-row.invariant in
    let tells = (simp to_z-of_z at c.has_between.ensures).1 in
    let none : HasBetween c.args.left c.args.right (inside c.row-item.result.1) → ⊥ = λ t. true≢false (sym (tells (subst (λ xs. HasBetween c.args.left c.args.right (inside xs)) (sym c.points.ensures) t)) ∙ c.if-has_between.false) in
    simp to_z-of_z (turn_passed c.args.rows.now c.loop-row.row-index c.row-item.result c.args.left c.args.right c.loop-row-test.true c.row-item.is i none)
