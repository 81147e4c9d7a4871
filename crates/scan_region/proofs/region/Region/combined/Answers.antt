use Rattle.std.proofs.Common.{◌∙◌, sym}
use Rattle.region_rows.specs.Edges.{applied}
use Rattle.region_rows.proofs.Plane.{has_viewed}
use Rattle.scan_region.proofs.Opened.{opened}
use Rattle.scan_region.proofs.region.Region.combined.Goals as goal

pub returns : goal.returns
returns c =
    let pixels = simp (c.as_slice.ensures.value, c.as_slice-2.ensures.value) at c.in_ok-rows.ensures.pixels in
    let of_self = has_viewed c.self.inside.rows.items _ c.self.view_is (opened _ _ c.self.invariant).are_rows in
    let of_other = has_viewed c.other.inside.rows.items _ c.other.view_is (opened _ _ c.other.invariant).are_rows in
    λ p. c.of_rows.ensures p.h p.v ∙ pixels p.h p.v ∙ sym (λ i. applied c.args.operator (of_self p.h p.v i) (of_other p.h p.v i))

pub combined_rows-requires-clause-a_rows : goal.combined_rows-requires-clause-a_rows
combined_rows-requires-clause-a_rows c = rw c.as_slice.ensures.value (opened _ _ c.self.invariant).are_rows

pub combined_rows-requires-clause-b_rows : goal.combined_rows-requires-clause-b_rows
combined_rows-requires-clause-b_rows c = rw c.as_slice-2.ensures.value (opened _ _ c.other.invariant).are_rows
