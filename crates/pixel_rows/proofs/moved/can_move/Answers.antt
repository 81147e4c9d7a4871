use Rattle.std.proofs.Common.{◌≡◌, true, false, sym, ◌∙◌}
use Rattle.std.proofs.lemmas.Int.{to_z-of_z}
use Rattle.tb_geom.specs.Rects.{is_empty_rect}
use Rattle.pixel_rows.proofs.BoxLemmas.{none_stays, stays_from, stays_with}
use Rattle.pixel_rows.proofs.moved.can_move.Goals as goal

pub returns-then-is_empty : goal.returns-then-is_empty
returns-then-is_empty c =
    let fits_dh = c.ranges.dh in
    let fits_dv = c.ranges.dv in
    let empty : is_empty_rect c.bbox-bounds.result ≡ true = sym c.is_empty.ensures.sides ∙ c.if-is_empty.true in
    (λ _. none_stays c.args.region.now c.bbox-bounds.result (record { h = c.args.dh; v = c.args.dv }) c.bbox-bounds.ensures.exact empty, λ _. c.if-is_empty.true)

pub returns-else-is_empty : goal.returns-else-is_empty
returns-else-is_empty c =
    let fits_dh = c.ranges.dh in
    let fits_dv = c.ranges.dv in
    let some : is_empty_rect c.bbox-bounds.result ≡ false = sym c.is_empty.ensures.sides ∙ c.if-is_empty.false in
    let offset = simp to_z-of_z at c.offset.ensures.in_range in (
      λ t. stays_from c.args.region.now c.bbox-bounds.result (record { h = c.args.dh; v = c.args.dv }) c.bbox-bounds.ensures.exact (sym offset ∙ sym c.is_ok.ensures.value ∙ t),
      λ stays. c.is_ok.ensures.value ∙ offset ∙ stays_with c.args.region.now c.bbox-bounds.result (record { h = c.args.dh; v = c.args.dv }) c.bbox-bounds.ensures.exact some stays,
    )
