use Rattle.std.proofs.Common.{◌/◌, ◌%◌, ap, ◌∙◌, rules, SFits, w32, unsigned_abs}
use Rattle.std.proofs.lemmas.Int.{to_z-of_z}
use Rattle.shape_arcs.specs.Directions.{direction, first_quarter, quarters}
use Rattle.shape_arcs.proofs.directions.direction.Goals as goal

pub returns-clause-value : goal.returns-clause-value
unfolding direction
returns-clause-value c =
    let fits_degree = c.ranges.degree in
    let fits : SFits w32 c.rem_euclid-degree.result = search rules in
    let value = simp to_z-of_z at c.rem_euclid-degree.ensures.value in
    let first = simp to_z-of_z at c.first_quarter.ensures.value in
    let turned = simp to_z-of_z at c.turned.ensures.value in
    turned
    ∙ ap (λ p. quarters (unsigned_abs c.rem_euclid-degree.result / 90) p) first
    ∙ ap (λ z. quarters (unsigned_abs z / 90) (first_quarter (unsigned_abs z % 90))) value
