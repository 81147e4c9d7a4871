use Rattle.std.proofs.Common.{◌||◌, ◌∙◌, sym}
use Rattle.region_rows.proofs.Plane.{has_view, has_viewed}
use Rattle.scan_region.proofs.Opened.{kept, opened}
use Rattle.scan_region.proofs.UnitedBoxes.{united}
use Rattle.scan_region.proofs.region.Region.union.Goals as goal

pub combined_rows-requires-clause-a_rows : goal.combined_rows-requires-clause-a_rows
combined_rows-requires-clause-a_rows c = rw c.as_slice-a.ensures.value (opened _ _ c.self.invariant).are_rows

pub combined_rows-requires-clause-b_rows : goal.combined_rows-requires-clause-b_rows
combined_rows-requires-clause-b_rows c = rw c.as_slice-b.ensures.value (opened _ _ c.other.invariant).are_rows

pub invariant_of-result : goal.invariant_of-result
invariant_of-result c =
    let pixels = simp (c.as_slice-a.ensures.value, c.as_slice-b.ensures.value) at c.in_ok-rows.ensures.pixels in
    let exact = simp (c.rect.ensures, c.rect-2.ensures) at c.union.ensures.exact in
    kept _ _ (rw c.of-bounds.ensures (united c.self.inside.rows.items c.other.inside.rows.items c.in_ok-rows.rows.items c.self.inside.bounds c.other.inside.bounds c.union.result (opened _ _ c.self.invariant) (opened _ _ c.other.invariant) c.in_ok-rows.ensures.rows pixels exact c.union.ensures.none))

pub returns : goal.returns
returns c =
    let pixels = simp (c.as_slice-a.ensures.value, c.as_slice-b.ensures.value) at c.in_ok-rows.ensures.pixels in
    let of_self = has_viewed c.self.inside.rows.items _ c.self.view_is (opened _ _ c.self.invariant).are_rows in
    let of_other = has_viewed c.other.inside.rows.items _ c.other.view_is (opened _ _ c.other.invariant).are_rows in
    λ p. has_view c.in_ok-rows.rows.items c.in_ok-rows.ensures.rows p.h p.v ∙ pixels p.h p.v ∙ sym (λ i. of_self p.h p.v i || of_other p.h p.v i)
