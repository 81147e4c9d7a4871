use Rattle.std.proofs.Common.{sym, ◌∙◌, subst}
use Rattle.std.proofs.lemmas.Int.{to_z-of_z}
use Rattle.std.proofs.lemmas.Bool.{true≢false}
use Rattle.region_bytes.specs.Points.{IsInRange, IsPointRow}
use Rattle.region_rows.specs.Edges.{inside}
use Rattle.region_rows.specs.Meets.{HasBetween}
use Rattle.region_rows.proofs.MetRows.{passed_others, all_others}
use Rattle.region_rows.proofs.meets.turning_rows.Goals as goal

pub loop-rest-preserved : goal.loop-rest-preserved
loop-rest-preserved c =
    let fits_l = c.ranges.left in
    let fits_r = c.ranges.right in
    let rest = c.loop-rest.rest.now in
    let i = simp to_z-of_z at c.loop-rest.invariant in
    let tells = (simp to_z-of_z at c.has_between.ensures).1 in
    let none : HasBetween c.args.left c.args.right (inside c.row-item.result.1) → ⊥ = λ t. true≢false (sym (tells (subst (λ xs. HasBetween c.args.left c.args.right (inside xs)) (sym c.points.ensures) t)) ∙ c.if-has_between.false) in
    simp to_z-of_z (record {
      pixels = λ h v from to. passed_others rest c.row-item.result c.args.left c.args.right c.in-len1-up.len_at_least c.row-item.is none h v from to ∙ i.pixels h v from to;
      each = all_others IsPointRow rest i.each;
      in_range = all_others IsInRange rest i.in_range;
    })
