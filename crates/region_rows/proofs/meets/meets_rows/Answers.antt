use Rattle.std.proofs.Common.{◌≡◌, Bool, false, refl, sym, ◌∙◌, subst, true, rules, SFits, w32}
use Rattle.std.proofs.lemmas.Int.{to_z-of_z}
use Rattle.std.proofs.lemmas.Bool.{true≢false}
use Rattle.region_bytes.specs.Points.{ArePointRows}
use Rattle.region_rows.proofs.MetRows.{IsParted, parted, rows_after, met_first, met_below, met_none}
use Rattle.region_rows.proofs.meets.meets_rows.Goals as goal

pub has_turn-requires-clause-rows : goal.has_turn-requires-clause-rows
has_turn-requires-clause-rows c = subst ArePointRows (sym c.split_at.ensures.back) (rows_after c.rows_to.result c.args.rows.now c.requires.rows.canonical.are_rows)

pub returns-in-Some-true : goal.returns-in-Some-true
returns-in-Some-true c =
    let r = c.args.rect in
    let fits_l : SFits w32 r.left = search rules in
    let fits_t : SFits w32 r.top = search rules in
    let fits_r : SFits w32 r.right = search rules in
    let to = simp to_z-of_z at c.rows_to.ensures in
    let s : IsParted c.args.rows.now c.split_at.result.0.now c.split_at.result.1.now r.top =
    rw (c.split_at.ensures.front, c.split_at.ensures.back) (parted c.args.rows.now c.rows_to.result r.top c.requires.rows.canonical.are_rows to.within to.upper to.lower) in
    let same = simp to_z-of_z at c.turning_rows-turning.ensures.pixels in
    let t = (simp to_z-of_z at c.in-Some-true.ensures).0 c.in-Some-true.field-0-test in
    (λ _. met_first c.args.rows.now _ _ c.turning_rows-turning.result.now r s same c.requires.down t, λ _. refl)

pub returns-in-Some-false : goal.returns-in-Some-false
returns-in-Some-false c =
    let r = c.args.rect in
    let fits_l : SFits w32 r.left = search rules in
    let fits_t : SFits w32 r.top = search rules in
    let fits_r : SFits w32 r.right = search rules in
    let fits_b : SFits w32 r.bottom = search rules in
    let to = simp to_z-of_z at c.rows_to.ensures in
    let good : ArePointRows c.split_at.result.1.now = subst ArePointRows (sym c.split_at.ensures.back) (rows_after c.rows_to.result c.args.rows.now c.requires.rows.canonical.are_rows) in
    let s : IsParted c.args.rows.now c.split_at.result.0.now c.split_at.result.1.now r.top =
    rw (c.split_at.ensures.front, c.split_at.ensures.back) (parted c.args.rows.now c.rows_to.result r.top c.requires.rows.canonical.are_rows to.within to.upper to.lower) in
    let same = simp to_z-of_z at c.turning_rows-turning.ensures.pixels in
    let first = (simp to_z-of_z at c.in-Some-false.ensures).1 in
    let below = simp to_z-of_z at c.has_turn.ensures in (
      λ t. met_below c.args.rows.now _ _ c.turning_rows-turning.result.now r s same c.requires.down good (below.0 t),
      λ m. by c.has_turn.result c.has_turn.result refl (λ none. met_none c.args.rows.now _ _ c.turning_rows-turning.result.now r s same c.requires.down (λ t. true≢false (sym (first t) ∙ c.in-Some-false.field-0-test)) (λ t. true≢false (sym (below.1 t) ∙ none)) m.0 m.1 m.2),
    )
  where
    by : (b a : Bool) → a ≡ b → (a ≡ false → ⊥) → a ≡ true
    by true a e n = e
    by false a e n = absurd (n e)
