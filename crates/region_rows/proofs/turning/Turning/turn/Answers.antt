use Rattle.std.proofs.Common.{◌≡◌, ◌∷◌, ◌++◌, [], length, get_or, pos, SFits, w32, rules, sym, ap, ◌∙◌}
use Rattle.std.proofs.lemmas.Int.{to_z-of_z}
use Rattle.std.proofs.lemmas.List.{append_assoc, nil_from_length}
use Rattle.region_rows.proofs.Edges.{nothing_turned, same_turned}
use Rattle.region_rows.proofs.Gaps.{two_columns}
use Rattle.region_rows.proofs.turning.Turning.turn.Goals as goal

pub returns-then-is_empty-clause-pixels : goal.returns-then-is_empty-clause-pixels
returns-then-is_empty-clause-pixels c =
    let edges = c.args.self.now.edges.items in
    let columns = c.args.columns.now in
    let left = get_or columns 0 (pos 0) in
    let right = get_or columns 1 (pos 0) in
    let fits_l : SFits w32 left = search rules in
    let fits_r : SFits w32 right = search rules in
    let two : length columns ≡ 2 = search rules in
    let nil : edges ≡ [] = nil_from_length _ (search rules) in
    let first = simp to_z-of_z at c.in_ok-push.ensures.items in
    let second = simp to_z-of_z at c.in_ok-push-2.ensures.items in
    let both = second ∙ ap (λ xs. xs ++ right ∷ []) first ∙ append_assoc edges (left ∷ []) (right ∷ []) ∙ ap (λ xs. edges ++ xs) (sym (two_columns columns two)) in
    rw both (λ h. nothing_turned edges columns h nil)

pub returns-then-is_run-clause-pixels : goal.returns-then-is_run-clause-pixels
returns-then-is_run-clause-pixels c =
    let columns = c.args.columns.now in
    let fits_l : SFits w32 (get_or columns 0 (pos 0)) = search rules in
    let fits_r : SFits w32 (get_or columns 1 (pos 0)) = search rules in
    let two : length columns ≡ 2 = search rules in
    let run = simp to_z-of_z at c.is_run.ensures in
    let same : c.args.self.now.edges.items ≡ columns = sym c.as_slice.ensures.value ∙ run.0 c.if-is_run.true ∙ sym (two_columns columns two) in
    rw c.clear.ensures.items (λ h. same_turned _ _ h same)
