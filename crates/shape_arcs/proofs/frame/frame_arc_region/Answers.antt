use Rattle.std.proofs.lemmas.Int.{to_z-of_z}
use Rattle.shape_arcs.proofs.frame.frame_arc_region.Goals as goal

pub returns-clause-pixels : goal.returns-clause-pixels
returns-clause-pixels c =
    let fits_start = c.ranges.start in
    let fits_angle = c.ranges.angle in
    simp to_z-of_z at c.in_ok-region.ensures
