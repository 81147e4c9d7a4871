use Rattle.std.proofs.Common.{◌≡◌}
use Rattle.tb_geom.specs.Pixels.{holds}
use Rattle.region_bytes.specs.Edges.{differ}
use Rattle.region_bytes.specs.Points.{inverted}
use Rattle.region_bytes.proofs.region.RegionBytes.contains.Given as goal

abbrev pub invariant-loop-p : goal.invariant-loop-p
invariant-loop-p l = record {
  told : differ l.inside (inverted l.p-iterator l.point) ≡ holds l.self l.point;
}
