use Rattle.std.proofs.Common.{◌≡◌, ◌<ℤ◌, ◌∷◌, [], sym, ap, ◌∙◌, subst, rules, arith}
use Rattle.std.proofs.lemmas.Int.{ints}
use Rattle.region_bytes.proofs.Edges.{inside-nil, IsRow-nil}
use Rattle.region_rows.specs.Edges.{inside, IsRow}
use Rattle.region_rows.proofs.PairRows.{inside_two, row_of_two}
use Rattle.pixel_rows.proofs.RowLemmas.{between_same}
use Rattle.shape_region.proofs.two_runs.run_edges.Goals as goal

pub returns-then-left-right-clause-pixels : goal.returns-then-left-right-clause-pixels
returns-then-left-right-clause-pixels c =
    let fits_left = c.ranges.left in
    let fits_right = c.ranges.right in
    let same : c.args.left ≡ c.args.right = search (rules, ints) in
    let e : c.new-edges.result.items ≡ [] = search rules in
    λ h. ap (λ xs. inside xs h) e ∙ inside-nil h ∙ sym (between_same c.args.left h c.args.right same)

pub returns-then-left-right-clause-row : goal.returns-then-left-right-clause-row
returns-then-left-right-clause-row c =
    let e : c.new-edges.result.items ≡ [] = search rules in
    subst IsRow (sym e) IsRow-nil

pub returns-clause-pixels : goal.returns-clause-pixels
returns-clause-pixels c =
    let fits_left = c.ranges.left in
    let fits_right = c.ranges.right in
    let order = c.requires.order in
    let other = c.if-left-right.false in
    let some : c.args.left <ℤ c.args.right = omega (arith, ints) in
    let e : c.push-2.new.self.items ≡ c.args.left ∷ c.args.right ∷ [] = search rules in
    λ h. ap (λ xs. inside xs h) e ∙ inside_two c.args.left c.args.right h some

pub returns-clause-row : goal.returns-clause-row
returns-clause-row c =
    let fits_left = c.ranges.left in
    let fits_right = c.ranges.right in
    let order = c.requires.order in
    let other = c.if-left-right.false in
    let some : c.args.left <ℤ c.args.right = omega (arith, ints) in
    let e : c.push-2.new.self.items ≡ c.args.left ∷ c.args.right ∷ [] = search rules in
    subst IsRow (sym e) (row_of_two c.args.left c.args.right c.requires.left_in c.requires.right_in some)
