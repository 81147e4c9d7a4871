use Rattle.std.proofs.Common.{◌≡◌, true, sym, ◌∙◌, rules, SFits, w32}
use Rattle.std.proofs.lemmas.Int.{to_z-of_z}
use Rattle.tb_geom.specs.Pixels.{holds}
use Rattle.shape_strips.specs.Frames.{has_size}
use Rattle.region_inset.proofs.RangeLemmas.{frame_beside, frame_row}
use Rattle.region_inset.proofs.frame_region.FrameRegionPixelRows.row.Goals as goal

pub meant_columns-requires-clause-within : goal.meant_columns-requires-clause-within
meant_columns-requires-clause-within c =
    let s = c.args.self.now in
    let fits_v = c.ranges.v in
    let fits_across : SFits w32 c.from-across.result = search rules in
    let fits_down : SFits w32 c.from-down.result = search rules in
    let size : has_size s.pen ≡ true = sym c.has_size.ensures ∙ c.if-not-has_size.false in
    let outer = simp to_z-of_z at c.region_row.ensures in
    let inner = simp to_z-of_z at c.inset_row-inside.ensures in
    frame_beside (holds s.region.now) c.region_bounds-bounds.result s.pen c.from-across.result c.from-down.result c.args.v c.from-across.ensures c.from-down.ensures c.region_row.result c.inset_row-inside.result c.region_bounds-bounds.ensures.bounds size outer inner

pub returns : goal.returns
returns c =
    let s = c.args.self.now in
    let fits_v = c.ranges.v in
    let fits_across : SFits w32 c.from-across.result = search rules in
    let fits_down : SFits w32 c.from-down.result = search rules in
    let size : has_size s.pen ≡ true = sym c.has_size.ensures ∙ c.if-not-has_size.false in
    let outer = simp to_z-of_z at c.region_row.ensures in
    let inner = simp to_z-of_z at c.inset_row-inside.ensures in
    λ h. c.meant_columns.ensures h
    ∙ frame_row (holds s.region.now) c.region_bounds-bounds.result s.pen c.from-across.result c.from-down.result c.args.v c.from-across.ensures c.from-down.ensures c.region_row.result c.inset_row-inside.result c.region_bounds-bounds.ensures.bounds size outer inner h
