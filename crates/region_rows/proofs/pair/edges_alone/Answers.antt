use Rattle.std.proofs.Common.{◌≡◌, [], ◌∷◌, ◌<ℤ◌, ◌≤ℤ◌, refl, rules, SFits, w32}
use Rattle.std.specs.Int.{int_max, int_min}
use Rattle.std.proofs.lemmas.Int.{ints, to_z-of_z}
use Rattle.region_rows.proofs.PairRows.{apart_alone, around_alone, around_row, row_of_two}
use Rattle.region_rows.proofs.pair.edges_alone.Goals as goal

pub returns-then-right-left-clause-pixels : goal.returns-then-right-left-clause-pixels
returns-then-right-left-clause-pixels c =
    let own = c.args.own in
    let other = c.args.other in
    let apart : int_min own.right other.right ≤ℤ int_max own.left other.left = search (rules, ints) in
    let e : c.from_buf_and_len.result.items ≡ own.left ∷ own.right ∷ [] = search rules in
    rw e (λ h. apart_alone own other h c.requires apart)

pub returns-then-right-left-clause-row : goal.returns-then-right-left-clause-row
returns-then-right-left-clause-row c =
    let own = c.args.own in
    let e : c.from_buf_and_len.result.items ≡ own.left ∷ own.right ∷ [] = search rules in
    rw e (row_of_two own.left own.right c.requires.left_in c.requires.right_in c.requires.order)

pub returns-clause-pixels : goal.returns-clause-pixels
returns-clause-pixels c =
    let own = c.args.own in
    let other = c.args.other in
    let fits_x : SFits w32 own.left = search rules in
    let fits_w : SFits w32 own.right = search rules in
    let fits_y : SFits w32 c.max-left.result = search rules in
    let fits_z : SFits w32 c.min-right.result = search rules in
    let low : c.max-left.result ≡ int_max own.left other.left = search rules in
    let high : c.min-right.result ≡ int_min own.right other.right = search rules in
    let shared : c.max-left.result <ℤ c.min-right.result = search (rules, ints) in
    let e = simp to_z-of_z at c.edges_around.ensures in
    around_alone own other c.requires c.edges_around.result.items own.left c.max-left.result c.min-right.result own.right e refl low high refl shared

pub returns-clause-row : goal.returns-clause-row
returns-clause-row c =
    let own = c.args.own in
    let other = c.args.other in
    let fits_x : SFits w32 own.left = search rules in
    let fits_w : SFits w32 own.right = search rules in
    let fits_y : SFits w32 c.max-left.result = search rules in
    let fits_z : SFits w32 c.min-right.result = search rules in
    let low : c.max-left.result ≡ int_max own.left other.left = search rules in
    let high : c.min-right.result ≡ int_min own.right other.right = search rules in
    let shared : c.max-left.result <ℤ c.min-right.result = search (rules, ints) in
    let e = simp to_z-of_z at c.edges_around.ensures in
    around_row own other c.requires c.edges_around.result.items own.left c.max-left.result c.min-right.result own.right e refl low high refl shared
