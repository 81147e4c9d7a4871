use Rattle.std.proofs.Common.{pos, negsuc, refl, sym, ◌∙◌, rules, SFits, w32}
use Rattle.std.proofs.lemmas.Bool.{false≢true}
use Rattle.std.proofs.lemmas.Int.{to_z-of_z}
use Rattle.tb_geom.specs.Pixels.{holds}
use Rattle.shape_strips.proofs.RangeLemmas.{sides_in}
use Rattle.region_inset.proofs.RangeLemmas.{ends_in, across_by_box, across_by_columns, not_so, so_not}
use Rattle.region_inset.proofs.range.lies_across.Goals as goal

pub stays-requires-clause-first : goal.stays-requires-clause-first
stays-requires-clause-first c =
    let fits : SFits w32 c.region_bounds-bounds.result.left = search rules in
    let sides = sides_in c.region_bounds-bounds.result c.region_bounds-bounds.ensures.bounds.in_range in
    simp to_z-of_z (sides.left_low, sides.left_high)

pub stays-requires-clause-last : goal.stays-requires-clause-last
stays-requires-clause-last c =
    let fits : SFits w32 c.region_bounds-bounds.result.right = search rules in
    let sides = sides_in c.region_bounds-bounds.result c.region_bounds-bounds.ensures.bounds.in_range in
    simp to_z-of_z (sides.right_low, sides.right_high)

pub returns-then-stays : goal.returns-then-stays
returns-then-stays c =
    let fits_dh = c.ranges.dh in
    let fits_dv = c.ranges.dv in
    let fits_left : SFits w32 c.region_bounds-bounds.result.left = search rules in
    let fits_right : SFits w32 c.region_bounds-bounds.result.right = search rules in
    let b = c.region_bounds-bounds.ensures.bounds in
    let stays = simp to_z-of_z at c.stays.ensures in
    let ends = ends_in c.region_bounds-bounds.result.left c.region_bounds-bounds.result.right c.args.dh (sym stays ∙ c.if-stays.true) in
    (λ _. across_by_box (holds c.args.region.now) c.region_bounds-bounds.result b.in_range b.around c.args.dh c.args.dv ends.0 ends.1, λ _. refl)

pub returns-then-meets_column : goal.returns-then-meets_column
returns-then-meets_column c =
    let fits_dh = c.ranges.dh in
    let fits_dv = c.ranges.dv in
    let met = simp to_z-of_z at (c.meets_column.ensures.0 c.if-meets_column.true) in
    (λ t. absurd (search rules), λ lies. absurd (false≢true (lies (record { h = negsuc 16384; v = met.0 }) met.2)))

pub returns : goal.returns
returns c =
    let fits_dh = c.ranges.dh in
    let fits_dv = c.ranges.dv in
    let b = c.region_bounds-bounds.ensures.bounds in
    let left = simp to_z-of_z at c.meets_column.ensures in
    let right = simp to_z-of_z at c.meets_column-2.ensures in (
      λ t. across_by_columns (holds c.args.region.now) c.region_bounds-bounds.result b.in_range b.around c.args.dh c.args.dv
          (λ v level e. false≢true (sym c.if-meets_column.false ∙ left.1 (v, level, e)))
          (λ v level e. false≢true (sym (not_so c.meets_column-2.result t) ∙ right.1 (v, level, e))),
      λ lies. so_not c.meets_column-2.result (λ t. let met = right.0 t in false≢true (lies (record { h = pos 16383; v = met.0 }) met.2)),
    )
