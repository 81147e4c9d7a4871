use Rattle.std.proofs.Common.{◌≡◌, drop}
use Rattle.shape_region.specs.Polygons.{single_point}
use Rattle.shape_region.proofs.PolygonRowLemmas.{reaching}
use Rattle.shape_region.proofs.polygon_rows.bounds_around.Given as goal

abbrev pub invariant-loop-point : goal.invariant-loop-point
invariant-loop-point l = reaching l.bounds (drop l.point-index l.others) ≡ reaching (single_point l.fn.first) l.others
