use Rattle.std.proofs.Common.{◌∙◌}
use Rattle.std.proofs.lemmas.Int.{to_z-of_z}
use Rattle.shape_region.proofs.rows.SolidRows.two_runs.Goals as goal

pub returns-clause-pixels : goal.returns-clause-pixels
returns-clause-pixels g c =
    let fits_v = c.ranges.v in
    let row = simp to_z-of_z at c.placed_run.ensures.pixels in
    λ h. c.one.ensures.pixels h ∙ row h
