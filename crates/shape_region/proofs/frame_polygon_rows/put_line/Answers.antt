use Rattle.std.proofs.Common.{◌||◌, ap, ◌∙◌}
use Rattle.std.proofs.lemmas.Int.{to_z-of_z}
use Rattle.pixel_rows.specs.Columns.{has_column}
use Rattle.shape_region.proofs.frame_polygon_rows.put_line.Goals as goal

pub returns : goal.returns
returns c =
    let fits_v = c.ranges.v in
    let told = simp to_z-of_z at c.placed_run.ensures.pixels in
    λ h. c.put_run.ensures h ∙ ap (λ t. t || has_column c.args.row.now h) (told h)
