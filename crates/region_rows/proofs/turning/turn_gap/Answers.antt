use Rattle.std.proofs.Common.{◌≡◌, ◌∷◌, ◌++◌, [], ◌∙◌, ◌+◌, ◌≤◌, length, ap, rules, SFits, w32}
use Rattle.std.proofs.lemmas.Int.{to_z-of_z}
use Rattle.std.proofs.lemmas.List.{append_assoc, with_items_is}
use Rattle.region_rows.proofs.Gaps.{set_at}
use Rattle.region_rows.proofs.turning.turn_gap.Goals as goal

pub returns-in-true-false : goal.returns-in-true-false
returns-in-true-false c =
    let fits_r = c.ranges.right in
    let within : c.args.gap.place + 1 ≤ length c.args.edges.now.items = simp (c.in-true-false.is-0, c.in-true-false.is-1) at c.requires.within in
    rw (c.in-true-false.is-0, c.in-true-false.is-1) (simp to_z-of_z (set_at c.args.edges.now.items c.args.gap.place c.args.right within))

pub returns-in-false-true : goal.returns-in-false-true
returns-in-false-true c =
    let fits_l = c.ranges.left in
    let within : c.args.gap.place + 1 ≤ length c.args.edges.now.items = simp (c.in-false-true.is-0, c.in-false-true.is-1) at c.requires.within in
    rw (c.in-false-true.is-0, c.in-false-true.is-1) (simp to_z-of_z (set_at c.args.edges.now.items c.args.gap.place c.args.left within))

pub returns-in_ok-push-in-false-false-2 : goal.returns-in_ok-push-in-false-false-2
returns-in_ok-push-in-false-false-2 c =
    let fits_l = c.ranges.left in
    let fits_r = c.ranges.right in
    let first = c.open_places-first.result.0 in
    let second = c.open_places-first.result.1 in
    let fits_a : SFits w32 first = search rules in
    let fits_b : SFits w32 second = search rules in
    let edges = c.args.edges.now in
    let long : length c.open_places-first.new.edges ≡ edges.len = c.open_places-first.auto.edges ∙ c.as_mut_slice-in-false-false.ensures.len in
    let new = with_items_is edges c.open_places-first.new.edges long in
    let opened = simp (to_z-of_z, c.as_mut_slice-in-false-false.ensures.value) at c.open_places-first.ensures in
    let one = simp to_z-of_z at c.in_ok-push-in-false-false.ensures.items in
    let two = simp to_z-of_z at c.in_ok-push-in-false-false-2.ensures.items in
    rw (c.in-false-false.is-0, c.in-false-false.is-1) (
    two ∙ ap (λ xs. xs ++ second ∷ []) (one ∙ ap (λ xs. xs ++ first ∷ []) new) ∙ append_assoc c.open_places-first.new.edges (first ∷ []) (second ∷ []) ∙ opened
    )
