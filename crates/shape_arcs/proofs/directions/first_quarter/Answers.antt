use Rattle.std.proofs.Common.{ℤ, pos, negsuc, neg_ℤ, ◌-ℤ◌, refl, sym, ap, ◌∙◌, arith, rules, SFits, w32}
use Rattle.std.proofs.lemmas.Int.{ints, to_z-of_z}
use Rattle.tb_geom.specs.declared.point.Point.{Point}
use Rattle.shape_arcs.specs.Directions.{tangent}
use Rattle.shape_arcs.proofs.DirectionLemmas.{low_direction, high_direction, minus_is_neg, neg_fits}
use Rattle.shape_arcs.proofs.directions.first_quarter.Goals as goal

pub returns-then-degree-le45-clause-value : goal.returns-then-degree-le45-clause-value
returns-then-degree-le45-clause-value c =
    let fits : SFits w32 c.tangent.result = search rules in
    let few = c.if-degree-le45.true in
    let at : ℤ → Point = λ z. record { h = z; v = negsuc 65535 } in
    ap at (to_z-of_z w32 c.tangent.result fits ∙ c.tangent.ensures.value) ∙ sym (low_direction c.args.degree c.args.degree (omega arith) refl)

pub returns-else-degree-le45-clause-value : goal.returns-else-degree-le45-clause-value
returns-else-degree-le45-clause-value c =
    let t : ℤ = c.tangent-else-degree-le45.result in
    let low = c.tangent-else-degree-le45.ensures.low in
    let high = c.tangent-else-degree-le45.ensures.high in
    let fits : SFits w32 c.tangent-else-degree-le45.result = search rules in
    let fits_neg : SFits w32 (pos 0 -ℤ c.tangent-else-degree-le45.result) = neg_fits c.tangent-else-degree-le45.result (omega (arith, ints)) (omega (arith, ints)) in
    let many = c.if-degree-le45.false in
    let at : ℤ → Point = λ z. record { h = pos 65536; v = z } in
    simp to_z-of_z (ap at (minus_is_neg c.tangent-else-degree-le45.result ∙ ap neg_ℤ c.tangent-else-degree-le45.ensures.value) ∙ sym (high_direction c.args.degree (omega arith)))
