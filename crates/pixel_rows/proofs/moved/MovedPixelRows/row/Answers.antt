use Rattle.std.proofs.Common.{◌-ℤ◌, ◌∙◌, rules, SFits, w32}
use Rattle.std.proofs.lemmas.Int.{to_z-of_z}
use Rattle.tb_geom.specs.Pixels.{holds}
use Rattle.pixel_rows.specs.Combined.{moved}
use Rattle.pixel_rows.proofs.ColumnLemmas.{beside_bounds, word_apart}
use Rattle.pixel_rows.proofs.moved.MovedPixelRows.row.Goals as goal

pub moved_columns-requires-clause-within : goal.moved_columns-requires-clause-within
moved_columns-requires-clause-within c =
    let s = c.args.self.now in
    let fits_v = c.ranges.v in
    let fits_dh : SFits w32 c.args.self.now.dh = search rules in
    let fits_dv : SFits w32 c.args.self.now.dv = search rules in
    let fits_from : SFits w32 (c.args.v -ℤ c.args.self.now.dv) = word_apart c.args.v s.dv c.requires s.down in
    let from = simp to_z-of_z at c.region_row.ensures in
    simp to_z-of_z (λ h out. from (h -ℤ s.dh) ∙ beside_bounds (moved (holds s.region.now) (record { h = s.dh; v = s.dv })) _ c.args.v h c.bounds.ensures out)

pub returns : goal.returns
returns c =
    let s = c.args.self.now in
    let fits_v = c.ranges.v in
    let fits_dh : SFits w32 c.args.self.now.dh = search rules in
    let fits_dv : SFits w32 c.args.self.now.dv = search rules in
    let fits_from : SFits w32 (c.args.v -ℤ c.args.self.now.dv) = word_apart c.args.v s.dv c.requires s.down in
    let from = simp to_z-of_z at c.region_row.ensures in
    let columns = simp to_z-of_z at c.moved_columns.ensures in
    λ h. columns h ∙ from (h -ℤ s.dh)
