use Rattle.std.proofs.Common.{rules}
use Rattle.std.proofs.lemmas.List.{nil_from_length}
use Rattle.region_rows.proofs.Plane.{no_rows-viewed, no_pixel-viewed}
use Rattle.scan_region.proofs.Opened.{opened}
use Rattle.scan_region.proofs.region.Region.is_empty.Goals as goal

pub returns : goal.returns
returns c = (
  λ t. no_pixel-viewed c.self.inside.rows.items _ (opened _ _ c.self.invariant).are_rows c.self.view_is (nil_from_length _ (search rules)),
  λ none. let e = no_rows-viewed c.self.inside.rows.items _ (opened _ _ c.self.invariant).are_rows c.self.view_is none in search rules,
)
