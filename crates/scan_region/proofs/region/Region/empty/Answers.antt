use Rattle.std.proofs.Common.{◌∙◌, refl}
use Rattle.region_bytes.proofs.Rows.{nil_has}
use Rattle.region_rows.proofs.Merged.{AreRows-nil}
use Rattle.region_rows.proofs.Plane.{has_view}
use Rattle.region_rows.proofs.Hulls.{hull_none}
use Rattle.scan_region.proofs.Opened.{kept}
use Rattle.scan_region.proofs.region.Region.empty.Goals as goal

pub invariant_of-result : goal.invariant_of-result
invariant_of-result c = kept _ _ (rw (c.new.ensures.items, c.of.ensures) (record { are_rows = AreRows-nil; hull = hull_none _ refl }))

pub returns : goal.returns
returns c = rw c.new.ensures.items (λ p. has_view _ AreRows-nil p.h p.v ∙ nil_has p.h p.v)
