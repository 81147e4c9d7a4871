use Rattle.std.proofs.Common.{◌≡◌, ◌-◌, SFits, w32, length, get_or, pos, [], ◌∙◌, sym, ap, subst, rules}
use Rattle.std.proofs.lemmas.Int.{to_z-of_z}
use Rattle.std.proofs.lemmas.List.{get_or_default}
use Rattle.region_bytes.specs.Points.{IsPointRow}
use Rattle.region_rows.specs.Rows.{EdgeRow}
use Rattle.region_rows.specs.Hull.{row_in}
use Rattle.region_rows.proofs.Edges.{two_at_least}
use Rattle.region_rows.proofs.Hulls.{ColumnsTo-none, ColumnsTo-more, hull_of}
use Rattle.region_rows.proofs.hull.rows_hull.Goals as goal

pub loop-row-init : goal.loop-row-init
loop-row-init c = ColumnsTo-none _

pub ends-least-requires : goal.ends-least-requires
ends-least-requires c =
    let good : IsPointRow c.row-item.result = subst IsPointRow (sym c.row-item.is) (c.requires.canonical.are_rows.each c.loop-row.row-index c.row-item.result c.loop-row-test.true) in
    rw c.points.ensures (two_at_least c.row-item.result.1 good.some good.even)

pub loop-row-preserved : goal.loop-row-preserved
loop-row-preserved c =
    let fits_low : SFits w32 c.min-left.result = search rules in
    let fits_high : SFits w32 c.max-right.result = search rules in
    let fits_least : SFits w32 c.ends-least.result.0 = search rules in
    let fits_greatest : SFits w32 c.ends-least.result.1 = search rules in
    let least = simp to_z-of_z at c.min-left.ensures.value in
    let greatest = simp to_z-of_z at c.max-right.ensures.value in
    let row : c.points.result.now ≡ (row_in c.args.rows.now c.loop-row.row-index).1 = c.points.ensures ∙ ap (λ (r : EdgeRow). r.1) (c.row-item.is ∙ get_or_default c.args.rows.now c.loop-row.row-index c.row-item.result (pos 0, []) c.loop-row-test.true) in
    simp to_z-of_z (rw (least, greatest) (ColumnsTo-more c.args.rows.now c.loop-row.row-index _ _ c.ends-least.result.0 c.ends-least.result.1 c.requires c.loop-row-test.true c.loop-row.invariant
    (c.ends-least.ensures.first ∙ ap (λ xs. get_or xs 0 (pos 0)) row) (c.ends-least.ensures.last ∙ ap (λ xs. get_or xs (length xs - 1) (pos 0)) row)))

pub returns : goal.returns
returns c =
    let fits_top : SFits w32 c.v.result = search rules in
    let fits_bottom : SFits w32 c.v-2.result = search rules in
    let first = c.in-Some-Some.ensures.item.3 in
    let last = c.in-Some-Some.ensures'.item.3 in
    simp to_z-of_z (hull_of c.args.rows.now c.loop-row.row-index _ _ c.v.result c.v-2.result c.in-Some-Some.first.now c.in-Some-Some.last.now c.requires c.loop-row-test.false c.loop-row.auto.row-index-end c.loop-row.invariant first.0 (first.1 _) (last.1 _) c.v.ensures c.v-2.ensures)
