use Rattle.std.proofs.Common.{◌≡◌, ◌<ℤ◌, get_or, pos, refl, ◌∙◌, rules, arith, SFits, w32}
use Rattle.std.proofs.lemmas.Int.{ints, to_z-of_z, by_lt_z}
use Rattle.std.proofs.lemmas.Bool.{false≢true}
use Rattle.std.proofs.lemmas.List.{get_or_default}
use Rattle.region_rows.proofs.MetRows.{first_between, next_between, none_between}
use Rattle.region_rows.proofs.RunEdges.{count_none, zero_even}
use Rattle.region_rows.proofs.meets.has_between.Goals as goal

pub count_to-at-requires-clause-odd : goal.count_to-at-requires-clause-odd
count_to-at-requires-clause-odd c = zero_even

pub returns-then-at : goal.returns-then-at
returns-then-at c =
    let fits_l = c.ranges.left in
    let count = (simp to_z-of_z at c.count_to-at.ensures.count) c.args.left (omega (arith, ints)) (count_none c.args.points.now c.args.left) in
    (λ t. first_between c.args.points.now c.count_to-at.result.next c.args.left c.args.right c.requires.rising c.requires.order count (c.count_to-at.ensures.odd ∙ c.if-at.true), λ s. refl)

pub returns-in-Some : goal.returns-in-Some
returns-in-Some c =
    let fits_l = c.ranges.left in
    let count = (simp to_z-of_z at c.count_to-at.ensures.count) c.args.left (omega (arith, ints)) (count_none c.args.points.now c.args.left) in
    let even = c.count_to-at.ensures.odd ∙ c.if-at.false in
    let fits_r = c.ranges.right in
    let fits_x : SFits w32 c.in-Some.x.now = search rules in
    let there = c.in-Some.ensures.lookup.3.0 in
    let x : c.in-Some.x.now ≡ get_or c.args.points.now c.count_to-at.result.next (pos 0) = c.in-Some.ensures.lookup.1 ∙ get_or_default c.args.points.now c.count_to-at.result.next c.in-Some.x.now (pos 0) there in
    simp to_z-of_z (
      λ t. next_between c.args.points.now c.count_to-at.result.next c.args.left c.args.right c.requires.rising count even there (let before : c.in-Some.x.now <ℤ c.args.right = search (rules, ints) in omega (arith, ints)),
      λ s. by_lt_z c.in-Some.x.now c.args.right (λ m. search (rules, ints)) (λ m. absurd (none_between c.args.points.now c.count_to-at.result.next c.args.left c.args.right c.requires.rising count even (λ l. omega (arith, ints)) s)),
    )

pub returns-in-None : goal.returns-in-None
returns-in-None c =
    let fits_l = c.ranges.left in
    let count = (simp to_z-of_z at c.count_to-at.ensures.count) c.args.left (omega (arith, ints)) (count_none c.args.points.now c.args.left) in
    let even = c.count_to-at.ensures.odd ∙ c.if-at.false in
    (λ t. absurd (false≢true t), λ s. absurd (none_between c.args.points.now c.count_to-at.result.next c.args.left c.args.right c.requires.rising count even (λ l. absurd (search rules)) s))
