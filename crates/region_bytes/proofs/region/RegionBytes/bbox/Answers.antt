use Rattle.std.proofs.Common.{subst}
use Rattle.tb_geom.specs.Rects.{IsBoxOf}
use Rattle.tb_geom.specs.Pixels.{holds}
use Rattle.region_bytes.proofs.Formed.{region_form}
use Rattle.region_bytes.proofs.Boxed.{region_box, region_none}
use Rattle.region_bytes.proofs.region.RegionBytes.bbox.Goals as goal

pub unreachable-requires : goal.unreachable-requires
unreachable-requires c = c.in-None.ensures c.self.invariant.rows (region_form c.self.inside.bytes.now _ c.self.invariant)

pub returns-clause-exact : goal.returns-clause-exact
returns-clause-exact c =
    subst (λ s. IsBoxOf c.in-Some.bounds (holds s)) c.self.view_is (region_box c.self.inside.bytes.now _ c.in-Some.bounds _ c.in-Some.ensures c.self.invariant)

pub returns-clause-none : goal.returns-clause-none
returns-clause-none c = region_none c.self.inside.bytes.now _ c.in-Some.bounds _ c.in-Some.ensures c.self.invariant
