use Rattle.std.proofs.Common.{◌+ℤ◌, rules, SFits, w32, w64}
use Rattle.std.proofs.lemmas.Int.{to_z-of_z}
use Rattle.shape_arcs.proofs.SightLemmas.{near_h, near_v, sum_of_wide}
use Rattle.shape_arcs.proofs.sight.dot.Goals as goal

pub product-requires : goal.product-requires
product-requires c = let fits : SFits w32 c.args.direction.h = search rules in simp to_z-of_z (near_h c.args.direction c.requires)

pub product-requires-2 : goal.product-requires-2
product-requires-2 c = let fits : SFits w32 c.args.direction.v = search rules in simp to_z-of_z (near_v c.args.direction c.requires)

pub overflow_add-result : goal.overflow_add-result
overflow_add-result c =
    let fits_a : SFits w64 c.product.result = search rules in
    let fits_b : SFits w64 c.product-2.result = search rules in
    simp to_z-of_z (sum_of_wide c.product.result c.product-2.result c.product.ensures.within c.product-2.ensures.within).0

pub returns : goal.returns
returns c =
    let fits_dh : SFits w32 c.args.direction.h = search rules in
    let fits_dv : SFits w32 c.args.direction.v = search rules in
    let fits_h : SFits w32 c.args.point.h = search rules in
    let fits_v : SFits w32 c.args.point.v = search rules in
    let fits_a : SFits w64 c.product.result = search rules in
    let fits_b : SFits w64 c.product-2.result = search rules in
    let fits = (sum_of_wide c.product.result c.product-2.result c.product.ensures.within c.product-2.ensures.within).0 in
    let first = simp to_z-of_z at c.product.ensures.value in
    let second = simp to_z-of_z at c.product-2.ensures.value in
    simp to_z-of_z (λ i. first i +ℤ second i)
