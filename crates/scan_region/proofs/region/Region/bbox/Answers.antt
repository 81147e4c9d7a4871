use Rattle.std.proofs.Common.{◌∙◌}
use Rattle.tb_geom.specs.Pixels.{holds}
use Rattle.region_bytes.specs.Points.{in_rows}
use Rattle.region_rows.proofs.Plane.{has_viewed, no_rows-viewed}
use Rattle.region_rows.proofs.Hulls.{box_same, hull_box, box_of_none}
use Rattle.scan_region.proofs.Opened.{opened}
use Rattle.scan_region.proofs.region.Region.bbox.Goals as goal

pub returns-clause-exact : goal.returns-clause-exact
returns-clause-exact c =
    rw c.rect.ensures (box_same _ (λ p. in_rows c.self.inside.rows.items p.h p.v) (holds c.args.self.now) (λ p. has_viewed c.self.inside.rows.items _ c.self.view_is (opened _ _ c.self.invariant).are_rows p.h p.v) (hull_box _ _ (opened _ _ c.self.invariant)))

pub returns-clause-none : goal.returns-clause-none
returns-clause-none c = λ e. c.rect.ensures ∙ box_of_none _ _ (opened _ _ c.self.invariant) (no_rows-viewed c.self.inside.rows.items _ (opened _ _ c.self.invariant).are_rows c.self.view_is e)
