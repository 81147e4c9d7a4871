use Rattle.std.proofs.Common.{pos, get_or, rules, SFits, w32}
use Rattle.std.proofs.lemmas.Int.{to_z-of_z}
use Rattle.region_rows.proofs.RectRows.{rect_of_rows, rows_of_rect}
use Rattle.region_rows.proofs.rect.rect_of.Goals as goal

pub returns-clause-pixels : goal.returns-clause-pixels
returns-clause-pixels c =
    let fits_left : SFits w32 (get_or c.points.result.now 0 (pos 0)) = search rules in
    let fits_right : SFits w32 (get_or c.points.result.now 1 (pos 0)) = search rules in
    let fits_top : SFits w32 c.v.result = search rules in
    let fits_bottom : SFits w32 c.v-2.result = search rules in
    simp to_z-of_z (λ h v. rw (c.v.ensures, c.v-2.ensures) (rect_of_rows c.args.rows.now c.upper-item.result c.lower-item.result c.points.result.now h v c.requires c.in-len2.len_at_least c.in-len2.len_below c.upper-item.is c.lower-item.is c.points.ensures c.in-len2-points.len_at_least c.in-len2-points.len_below))

pub returns-clause-rows : goal.returns-clause-rows
returns-clause-rows c =
    let fits_left : SFits w32 (get_or c.points.result.now 0 (pos 0)) = search rules in
    let fits_right : SFits w32 (get_or c.points.result.now 1 (pos 0)) = search rules in
    let fits_top : SFits w32 c.v.result = search rules in
    let fits_bottom : SFits w32 c.v-2.result = search rules in
    simp to_z-of_z (rw (c.v.ensures, c.v-2.ensures) (rows_of_rect c.args.rows.now c.upper-item.result c.lower-item.result c.points.result.now c.requires c.in-len2.len_at_least c.in-len2.len_below c.upper-item.is c.lower-item.is c.points.ensures c.in-len2-points.len_at_least c.in-len2-points.len_below))
