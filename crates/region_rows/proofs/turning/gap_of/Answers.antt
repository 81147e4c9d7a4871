use Rattle.std.proofs.Common.{◌+◌, ◌<◌, ◌<ℤ◌, ◌≤ℤ◌, length, pos, refl, sym, ◌∙◌, rules, SFits, w32, nat_eq, of_z}
use Rattle.std.proofs.lemmas.Int.{ints, to_z-of_z}
use Rattle.std.proofs.lemmas.Bool.{false≢true}
use Rattle.std.proofs.lemmas.List.{get_or_default}
use Rattle.region_rows.proofs.Gaps.{gap_is, free_is, not_free}
use Rattle.region_rows.proofs.turning.gap_of.Goals as goal

pub returns-in-Some-clause-free : goal.returns-in-Some-clause-free
returns-in-Some-clause-free c =
    let fits_l = c.ranges.left in
    let fits_r = c.ranges.right in
    let fits_x : SFits w32 c.in-Some.edge.now = search rules in
    let there = c.in-Some.ensures.lookup.3.0 in
    let x = c.in-Some.ensures.lookup.1 ∙ get_or_default c.args.edges.now (c.place_of-place.result.0 + c.from.result) c.in-Some.edge.now (pos 0) there in
    let before : c.in-Some.edge.now <ℤ c.args.right = search (rules, ints) in
    (λ t. absurd (false≢true t), λ s. absurd (not_free c.args.edges.now c.args.left c.args.right c.place_of-place.result.0 c.place_of-place.result.1 c.requires.edges (simp to_z-of_z at c.place_of-place.ensures) (rw (sym c.from.ensures) there) (rw (sym c.from.ensures, sym x) before) s))

pub returns-in-Some-2-clause-gap : goal.returns-in-Some-2-clause-gap
returns-in-Some-2-clause-gap c =
    let fits_l = c.ranges.left in
    let fits_r = c.ranges.right in
    let fits_x : SFits w32 c.in-Some.edge.now = search rules in
    let there = c.in-Some.ensures.lookup.3.0 in
    let x = c.in-Some.ensures.lookup.1 ∙ get_or_default c.args.edges.now (c.place_of-place.result.0 + c.from.result) c.in-Some.edge.now (pos 0) there in
    gap_is c.args.edges.now c.args.left c.args.right c.place_of-place.result.0 c.place_of-place.result.1 (nat_eq (of_z w32 c.in-Some.edge.now) (of_z w32 c.args.right)) c.requires.edges (simp to_z-of_z at c.place_of-place.ensures) (record {
      there = λ e. (rw (sym c.from.ensures) there, rw (sym c.from.ensures) (sym x ∙ search (rules, ints)));
      apart = λ e m. rw (sym c.from.ensures, sym x) (search (rules, ints));
    })

pub returns-in-Some-2-clause-free : goal.returns-in-Some-2-clause-free
returns-in-Some-2-clause-free c =
    let fits_l = c.ranges.left in
    let fits_r = c.ranges.right in
    let fits_x : SFits w32 c.in-Some.edge.now = search rules in
    let there = c.in-Some.ensures.lookup.3.0 in
    let x = c.in-Some.ensures.lookup.1 ∙ get_or_default c.args.edges.now (c.place_of-place.result.0 + c.from.result) c.in-Some.edge.now (pos 0) there in
    let on : c.args.right ≤ℤ c.in-Some.edge.now = search (rules, ints) in
    (λ t. free_is c.args.edges.now c.args.left c.args.right c.place_of-place.result.0 c.place_of-place.result.1 c.requires.edges (simp to_z-of_z at c.place_of-place.ensures) (λ m. rw (sym c.from.ensures, sym x) on), λ s. refl)

pub returns-in-None-clause-gap : goal.returns-in-None-clause-gap
returns-in-None-clause-gap c =
    let fits_l = c.ranges.left in
    gap_is c.args.edges.now c.args.left c.args.right c.place_of-place.result.0 c.place_of-place.result.1 _ c.requires.edges (simp to_z-of_z at c.place_of-place.ensures) (record {
      there = λ e. absurd (false≢true e);
      apart = λ e m. let there : c.place_of-place.result.0 + c.from.result < length c.args.edges.now = rw c.from.ensures m in absurd (search rules);
    })
