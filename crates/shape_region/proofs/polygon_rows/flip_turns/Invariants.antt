use Rattle.std.proofs.Common.{◌≡◌, true, drop}
use Rattle.std.specs.List.{list_all}
use Rattle.tb_geom.specs.Rects.{in_plane}
use Rattle.shape_region.proofs.PolygonRowLemmas.{AreFlipped}
use Rattle.shape_region.proofs.polygon_rows.flip_turns.Given as goal

abbrev pub invariant-loop-point : goal.invariant-loop-point
invariant-loop-point l = record {
  last_in : in_plane l.last ≡ true;
  rest_in : list_all in_plane (drop l.point-index l.others) ≡ true;
  flipped : AreFlipped l.fn.columns l.fn.from l.others l.to l.v l.last (drop l.point-index l.others) l.columns;
}
