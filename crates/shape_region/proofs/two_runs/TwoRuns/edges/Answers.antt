use Rattle.std.proofs.Common.{◌≡◌, ◌∷◌, [], sym, ap, ◌∙◌, subst, rules, arith, SFits, w32}
use Rattle.std.proofs.lemmas.Int.{ints, to_z-of_z}
use Rattle.tb_geom.specs.Rects.{between}
use Rattle.region_rows.specs.Edges.{inside, IsRow}
use Rattle.region_rows.proofs.PairRows.{row_of_four}
use Rattle.shape_region.proofs.RunLemmas.{first_none, last_none, in_one, inside_both}
use Rattle.shape_region.proofs.two_runs.TwoRuns.edges.Goals as goal

pub returns-then-third-last-clause-pixels : goal.returns-then-third-last-clause-pixels
returns-then-third-last-clause-pixels c =
    let fits_1 : SFits w32 c.args.self.first = search rules in
    let fits_2 : SFits w32 c.args.self.second = search rules in
    let fits_3 : SFits w32 c.args.self.third = search rules in
    let fits_4 : SFits w32 c.args.self.last = search rules in
    let same : c.args.self.third ≡ c.args.self.last = search (rules, ints) in
    let pixels = simp to_z-of_z at c.run_edges-then-third-last.ensures.pixels in
    λ h. pixels h ∙ sym (last_none c.args.self.third c.args.self.last h (between c.args.self.first h c.args.self.second) same)

pub returns-then-second-third-clause-pixels : goal.returns-then-second-third-clause-pixels
returns-then-second-third-clause-pixels c =
    let fits_1 : SFits w32 c.args.self.first = search rules in
    let fits_2 : SFits w32 c.args.self.second = search rules in
    let fits_3 : SFits w32 c.args.self.third = search rules in
    let fits_4 : SFits w32 c.args.self.last = search rules in
    let same : c.args.self.second ≡ c.args.self.third = search (rules, ints) in
    let pixels = simp to_z-of_z at c.run_edges-then-second-third.ensures.pixels in
    λ h. pixels h ∙ in_one c.args.self.first c.args.self.second c.args.self.third c.args.self.last h c.requires.left same c.requires.right

pub returns-clause-pixels : goal.returns-clause-pixels
returns-clause-pixels c =
    let fits_1 : SFits w32 c.args.self.first = search rules in
    let fits_2 : SFits w32 c.args.self.second = search rules in
    let fits_3 : SFits w32 c.args.self.third = search rules in
    let fits_4 : SFits w32 c.args.self.last = search rules in
    let left = c.requires.left in
    let middle = c.requires.middle in
    let right = c.requires.right in
    let not_first = c.if-first-second.false in
    let not_last = c.if-third-last.false in
    let not_middle = c.if-second-third.false in
    let e : c.from.result.items ≡ c.args.self.first ∷ c.args.self.second ∷ c.args.self.third ∷ c.args.self.last ∷ [] = search rules in
    λ h. ap (λ xs. inside xs h) e ∙ inside_both c.args.self.first c.args.self.second c.args.self.third c.args.self.last h (omega (arith, ints)) (omega (arith, ints)) (omega (arith, ints))

pub returns-clause-row : goal.returns-clause-row
returns-clause-row c =
    let fits_1 : SFits w32 c.args.self.first = search rules in
    let fits_2 : SFits w32 c.args.self.second = search rules in
    let fits_3 : SFits w32 c.args.self.third = search rules in
    let fits_4 : SFits w32 c.args.self.last = search rules in
    let left = c.requires.left in
    let middle = c.requires.middle in
    let right = c.requires.right in
    let not_first = c.if-first-second.false in
    let not_last = c.if-third-last.false in
    let not_middle = c.if-second-third.false in
    let e : c.from.result.items ≡ c.args.self.first ∷ c.args.self.second ∷ c.args.self.third ∷ c.args.self.last ∷ [] = search rules in
    subst IsRow (sym e) (row_of_four c.args.self.first c.args.self.second c.args.self.third c.args.self.last c.requires.first_in c.requires.last_in (omega (arith, ints)) (omega (arith, ints)) (omega (arith, ints)))

pub returns-then-first-second-clause-pixels : goal.returns-then-first-second-clause-pixels
returns-then-first-second-clause-pixels c =
    let fits_1 : SFits w32 c.args.self.first = search rules in
    let fits_2 : SFits w32 c.args.self.second = search rules in
    let fits_3 : SFits w32 c.args.self.third = search rules in
    let fits_4 : SFits w32 c.args.self.last = search rules in
    let same : c.args.self.first ≡ c.args.self.second = search (rules, ints) in
    let pixels = simp to_z-of_z at c.run_edges.ensures.pixels in
    λ h. pixels h ∙ sym (first_none c.args.self.first c.args.self.second h (between c.args.self.third h c.args.self.last) same)
