use Rattle.std.proofs.Common.{◌∙◌}
use Rattle.std.proofs.lemmas.Int.{to_z-of_z}
use Rattle.tb_geom.specs.Pixels.{holds}
use Rattle.pixel_rows.specs.Combined.{combined, means}
use Rattle.pixel_rows.proofs.ColumnLemmas.{beside_bounds}
use Rattle.pixel_rows.proofs.combined.CombinedPixelRows.row.Goals as goal

pub meant_columns-requires-clause-within : goal.meant_columns-requires-clause-within
meant_columns-requires-clause-within c =
    let fits_v = c.ranges.v in
    let s = c.args.self.now in
    let first = simp to_z-of_z at c.region_row-first.ensures in
    let second = simp to_z-of_z at c.region_row-second.ensures in
    λ h out. (λ i. means s.how (first h i) (second h i)) ∙ beside_bounds (combined s.how (holds s.first.now) (holds s.second.now)) _ c.args.v h c.bounds.ensures out

pub returns : goal.returns
returns c =
    let fits_v = c.ranges.v in
    let s = c.args.self.now in
    let first = simp to_z-of_z at c.region_row-first.ensures in
    let second = simp to_z-of_z at c.region_row-second.ensures in
    λ h. c.meant_columns.ensures h ∙ (λ i. means s.how (first h i) (second h i))
