use Rattle.std.proofs.Common.{◌∙◌, sym, rules, SFits, w32}
use Rattle.std.proofs.lemmas.Int.{ints, to_z-of_z}
use Rattle.bit_blit.proofs.OnceLemmas.{Once-of, Once-where}
use Rattle.bit_blit.proofs.WalkLemmas.{IsCut, cut_row-in_rect, cut_row-where}
use Rattle.bit_blit.proofs.walk.draw_span.Goals as goal

pub draw_run-requires : goal.draw_run-requires
draw_run-requires g c =
    let bounds = c.bounds-bounds.result in
    let fits_v = c.ranges.v in
    let fits_l = c.ranges.left in
    let fits_r = c.ranges.right in
    let fits_bl : SFits w32 bounds.left = search rules in
    let fits_br : SFits w32 bounds.right = search rules in
    let fits_bt : SFits w32 bounds.top = search rules in
    let fits_bb : SFits w32 bounds.bottom = search rules in
    let fits_first : SFits w32 c.max.result = search rules in
    let fits_last : SFits w32 c.min.result = search rules in
    let cut : IsCut bounds c.args.v c.args.left c.args.right c.max.result c.min.result = record {
      below = search (rules, ints);
      above = search (rules, ints);
      first_is = simp to_z-of_z at c.max.ensures.value;
      last_is = simp to_z-of_z at c.min.ensures.value;
    } in
    simp to_z-of_z (λ x e. sym (c.bounds-bounds.ensures.pixels x) ∙ cut_row-in_rect _ _ _ _ _ _ cut x e)

pub returns-then-v-bounds : goal.returns-then-v-bounds
returns-then-v-bounds g c =
    let bounds = c.bounds-bounds.result in
    let fits_v = c.ranges.v in
    let fits_l = c.ranges.left in
    let fits_r = c.ranges.right in
    let fits_bl : SFits w32 bounds.left = search rules in
    let fits_br : SFits w32 bounds.right = search rules in
    let fits_bt : SFits w32 bounds.top = search rules in
    let fits_bb : SFits w32 bounds.bottom = search rules in
    let fits_first : SFits w32 c.max.result = search rules in
    let fits_last : SFits w32 c.min.result = search rules in
    let cut : IsCut bounds c.args.v c.args.left c.args.right c.max.result c.min.result = record {
      below = search (rules, ints);
      above = search (rules, ints);
      first_is = simp to_z-of_z at c.max.ensures.value;
      last_is = simp to_z-of_z at c.min.ensures.value;
    } in
    let drawn = Once-of _ _ _ _ (simp to_z-of_z at c.draw_run.ensures.bits) (simp to_z-of_z at c.draw_run.ensures.counts) c.draw_run.ensures.width c.draw_run.ensures.height in
    Once-where _ _ _ _ _ (λ x on. cut_row-where _ _ _ _ _ _ cut x (c.bounds-bounds.ensures.pixels x ∙ on)) drawn
