use Rattle.region_rows.proofs.Plane.{has_view}
use Rattle.scan_region.proofs.Opened.{kept}
use Rattle.scan_region.proofs.region.Region.of_rows.Goals as goal

pub invariant_of-result : goal.invariant_of-result
invariant_of-result c = kept _ _ (record { are_rows = c.requires; hull = rw c.of-bounds.ensures (rw c.as_slice.ensures.value at c.rows_hull.ensures) })

pub returns : goal.returns
returns c = has_view _ c.requires
