use Rattle.std.proofs.Common.{◌≡◌, ◌≤◌, true, drop, length, pos, negsuc}
use Rattle.std.specs.List.{list_all}
use Rattle.tb_geom.specs.Rects.{in_plane}
use Rattle.region_rows.specs.Edges.{IsClimb}
use Rattle.shape_region.proofs.CrossLemmas.{AreCrossed}
use Rattle.shape_region.proofs.pass.way_crossings.Given as goal

abbrev pub invariant-loop-point : goal.invariant-loop-point
invariant-loop-point l = record {
  last_in : in_plane l.last ≡ true;
  rest_in : list_all in_plane (drop l.point-index l.others) ≡ true;
  few : length l.columns.items ≤ l.point-index;
  climb : IsClimb (negsuc 16384) l.columns.items (pos 16382);
  crossed : AreCrossed l.fn.from l.others l.to l.v l.last (drop l.point-index l.others) l.columns.items;
}
