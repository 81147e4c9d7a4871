use Rattle.std.proofs.lemmas.Int.{to_z-of_z}
use Rattle.shape_arcs.proofs.arc.arc_bytes.Goals as goal

pub returns : goal.returns
returns c =
    let fits_start = c.ranges.start in
    let fits_angle = c.ranges.angle in
    simp to_z-of_z at c.form_bytes.ensures
