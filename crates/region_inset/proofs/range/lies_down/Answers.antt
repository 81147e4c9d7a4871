use Rattle.std.proofs.Common.{pos, negsuc, refl, sym, ◌∙◌, rules, SFits, w32}
use Rattle.std.proofs.lemmas.Bool.{false≢true}
use Rattle.std.proofs.lemmas.Int.{to_z-of_z}
use Rattle.tb_geom.specs.Pixels.{holds}
use Rattle.shape_strips.proofs.RangeLemmas.{sides_in}
use Rattle.region_inset.specs.Insets.{inset}
use Rattle.region_inset.proofs.RangeLemmas.{ends_in, down_by_box, down_by_rows, not_level, not_so, so_not}
use Rattle.region_inset.proofs.range.lies_down.Goals as goal

pub stays-requires-clause-first : goal.stays-requires-clause-first
stays-requires-clause-first c =
    let fits : SFits w32 c.region_bounds-bounds.result.top = search rules in
    let sides = sides_in c.region_bounds-bounds.result c.region_bounds-bounds.ensures.bounds.in_range in
    simp to_z-of_z (sides.top_low, sides.top_high)

pub stays-requires-clause-last : goal.stays-requires-clause-last
stays-requires-clause-last c =
    let fits : SFits w32 c.region_bounds-bounds.result.bottom = search rules in
    let sides = sides_in c.region_bounds-bounds.result c.region_bounds-bounds.ensures.bounds.in_range in
    simp to_z-of_z (sides.bottom_low, sides.bottom_high)

pub returns-then-stays : goal.returns-then-stays
returns-then-stays c =
    let fits_dh = c.ranges.dh in
    let fits_dv = c.ranges.dv in
    let fits_top : SFits w32 c.region_bounds-bounds.result.top = search rules in
    let fits_bottom : SFits w32 c.region_bounds-bounds.result.bottom = search rules in
    let b = c.region_bounds-bounds.ensures.bounds in
    let stays = simp to_z-of_z at c.stays.ensures in
    let ends = ends_in c.region_bounds-bounds.result.top c.region_bounds-bounds.result.bottom c.args.dv (sym stays ∙ c.if-stays.true) in
    (λ _. down_by_box (holds c.args.region.now) c.region_bounds-bounds.result b.in_range b.around c.args.dh c.args.dv c.requires.columns ends.0 ends.1, λ _. refl)

pub returns-then-meets_row : goal.returns-then-meets_row
returns-then-meets_row c =
    let fits_dh = c.ranges.dh in
    let fits_dv = c.ranges.dv in
    let met = simp to_z-of_z at (c.meets_row.ensures.0 c.if-meets_row.true) in
    (λ t. absurd (search rules), λ lies. absurd (not_level (inset (holds c.args.region.now) c.args.dh c.args.dv) (record { h = met.0; v = negsuc 16384 }) lies refl met.1))

pub returns : goal.returns
returns c =
    let fits_dh = c.ranges.dh in
    let fits_dv = c.ranges.dv in
    let b = c.region_bounds-bounds.ensures.bounds in
    let top = simp to_z-of_z at c.meets_row.ensures in
    let bottom = simp to_z-of_z at c.meets_row-2.ensures in (
      λ t. down_by_rows (holds c.args.region.now) c.region_bounds-bounds.result b.in_range b.around c.args.dh c.args.dv c.requires.columns
          (λ h e. false≢true (sym c.if-meets_row.false ∙ top.1 (h, e)))
          (λ h e. false≢true (sym (not_so c.meets_row-2.result t) ∙ bottom.1 (h, e))),
      λ lies. so_not c.meets_row-2.result (λ t.
          let met = bottom.0 t in
          not_level (inset (holds c.args.region.now) c.args.dh c.args.dv) (record { h = met.0; v = pos 16383 }) lies refl met.1),
    )

pub meets_row-requires-clause-columns : goal.meets_row-requires-clause-columns
meets_row-requires-clause-columns c =
    let fits_dh = c.ranges.dh in
    let fits_dv = c.ranges.dv in
    simp to_z-of_z c.requires.columns

pub meets_row-requires-2-clause-columns : goal.meets_row-requires-2-clause-columns
meets_row-requires-2-clause-columns c =
    let fits_dh = c.ranges.dh in
    let fits_dv = c.ranges.dv in
    simp to_z-of_z c.requires.columns
