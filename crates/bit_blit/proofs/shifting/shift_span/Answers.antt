use Rattle.std.proofs.Common.{◌∙◌, sym, rules, SFits, w32}
use Rattle.std.proofs.lemmas.Int.{ints, to_z-of_z}
use Rattle.bit_blit.specs.Draws.{DrawsOnce, in_row}
use Rattle.bit_blit.proofs.OnceLemmas.{Once-of, Once-where, Once-none}
use Rattle.bit_blit.specs.Shifts.{shifted}
use Rattle.bit_blit.proofs.WalkLemmas.{IsCut, cut_row-in_rect}
use Rattle.bit_blit.proofs.ShiftLemmas.{span-cut, span-off, above_rows, below_rows}
use Rattle.bit_blit.proofs.shifting.shift_span.Goals as goal
use Rattle.bit_blit.proofs.shifting.shift_span.Goals.{else-area-span-via-then-area-span+else-span-area, else-area-span-via-else-area-span}

pub shift_run-requires : goal.shift_run-requires
shift_run-requires c =
    let span = c.args.span in
    let area = c.args.area in
    let fits_v : SFits w32 span.v = search rules in
    let fits_l : SFits w32 span.left = search rules in
    let fits_r : SFits w32 span.right = search rules in
    let fits_al : SFits w32 area.left = search rules in
    let fits_ar : SFits w32 area.right = search rules in
    let fits_at : SFits w32 area.top = search rules in
    let fits_ab : SFits w32 area.bottom = search rules in
    let fits_first : SFits w32 c.max-left.result = search rules in
    let fits_last : SFits w32 c.min-right.result = search rules in
    let cut : IsCut area span.v span.left span.right c.max-left.result c.min-right.result = record {
      below = search (rules, ints);
      above = search (rules, ints);
      first_is = simp to_z-of_z at c.max-left.ensures.value;
      last_is = simp to_z-of_z at c.min-right.ensures.value;
    } in
    simp to_z-of_z (λ x e. sym (c.requires x) ∙ cut_row-in_rect _ _ _ _ _ _ cut x e)

pub returns-then-span-area : goal.returns-then-span-area
returns-then-span-area c =
    let span = c.args.span in
    let area = c.args.area in
    let fits_v : SFits w32 span.v = search rules in
    let fits_l : SFits w32 span.left = search rules in
    let fits_r : SFits w32 span.right = search rules in
    let fits_al : SFits w32 area.left = search rules in
    let fits_ar : SFits w32 area.right = search rules in
    let fits_at : SFits w32 area.top = search rules in
    let fits_ab : SFits w32 area.bottom = search rules in
    let fits_dh : SFits w32 c.args.distance.h = search rules in
    let fits_dv : SFits w32 c.args.distance.v = search rules in
    let fits_first : SFits w32 c.max-left.result = search rules in
    let fits_last : SFits w32 c.min-right.result = search rules in
    let cut : IsCut area span.v span.left span.right c.max-left.result c.min-right.result = record {
      below = search (rules, ints);
      above = search (rules, ints);
      first_is = simp to_z-of_z at c.max-left.ensures.value;
      last_is = simp to_z-of_z at c.min-right.ensures.value;
    } in
    let drawn : DrawsOnce (in_row span.v c.max-left.result c.min-right.result) (shifted c.args.map.now c.args.distance) c.args.map.now c.shift_run.new.self = Once-of _ _ _ _ (simp to_z-of_z at c.shift_run.ensures.bits) (simp to_z-of_z at c.shift_run.ensures.counts) c.shift_run.ensures.width c.shift_run.ensures.height in
    Once-where _ _ _ _ _ (λ x on. span-cut c.args.map.now span c.args.distance area _ _ c.requires cut x on) drawn

pub returns-else-area-span : goal.returns-else-area-span
returns-else-area-span c =
    let span = c.args.span in
    let area = c.args.area in
    let fits_v : SFits w32 span.v = search rules in
    let fits_at : SFits w32 area.top = search rules in
    let fits_ab : SFits w32 area.bottom = search rules in
    Once-none _ _ _ (span-off c.args.map.now span c.args.distance area c.requires (elim c.else-area-span.branch [
      | else-area-span-via-then-area-span+else-span-area w ↦ below_rows area.top span.v area.bottom (search (rules, ints))
      | else-area-span-via-else-area-span w ↦ above_rows area.top span.v area.bottom (search (rules, ints))
    ]))
