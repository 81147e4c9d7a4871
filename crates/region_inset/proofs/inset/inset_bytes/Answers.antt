use Rattle.std.proofs.lemmas.Int.{to_z-of_z}
use Rattle.region_inset.proofs.inset.inset_bytes.Goals as goal

pub returns : goal.returns
returns c =
    let fits_dh = c.ranges.dh in
    let fits_dv = c.ranges.dv in
    simp to_z-of_z at c.pixel_bytes.ensures
