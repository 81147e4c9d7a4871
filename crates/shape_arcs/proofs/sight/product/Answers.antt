use Rattle.std.proofs.Common.{◌≡◌, ◌*ℤ◌, rules, SFits, w64}
use Rattle.std.proofs.lemmas.Int.{to_z-of_z}
use Rattle.shape_arcs.proofs.SightLemmas.{wide_fits, wide_within}
use Rattle.shape_arcs.proofs.sight.product.Goals as goal

pub overflow_mul-result : goal.overflow_mul-result
overflow_mul-result c =
    let a : c.from.result ≡ c.args.a = search rules in
    let b : c.from-2.result ≡ c.args.b = search rules in
    let fits_a : SFits w64 c.from.result = search rules in
    let fits_b : SFits w64 c.from-2.result = search rules in
    simp to_z-of_z (rw (a, b) (wide_fits c.args.a c.args.b c.requires c.ranges.b))

pub returns-clause-value : goal.returns-clause-value
returns-clause-value c =
    let a : c.from.result ≡ c.args.a = search rules in
    let b : c.from-2.result ≡ c.args.b = search rules in
    let fits_a : SFits w64 c.from.result = search rules in
    let fits_b : SFits w64 c.from-2.result = search rules in
    let fits : SFits w64 (c.from.result *ℤ c.from-2.result) = rw (a, b) (wide_fits c.args.a c.args.b c.requires c.ranges.b) in
    simp to_z-of_z (λ i. a i *ℤ b i)

pub returns-clause-within : goal.returns-clause-within
returns-clause-within c =
    let a : c.from.result ≡ c.args.a = search rules in
    let b : c.from-2.result ≡ c.args.b = search rules in
    let fits_a : SFits w64 c.from.result = search rules in
    let fits_b : SFits w64 c.from-2.result = search rules in
    let fits : SFits w64 (c.from.result *ℤ c.from-2.result) = rw (a, b) (wide_fits c.args.a c.args.b c.requires c.ranges.b) in
    simp to_z-of_z (rw (a, b) (wide_within c.args.a c.args.b c.requires c.ranges.b))
