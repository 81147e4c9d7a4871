use Rattle.std.proofs.Common.{◌≡◌, true, drop}
use Rattle.std.specs.List.{list_all}
use Rattle.shape_strips.specs.Lines.{pen_fits}
use Rattle.shape_region.proofs.PolygonRowLemmas.{AreLined}
use Rattle.shape_region.proofs.frame_polygon_rows.put_lines.Given as goal

abbrev pub invariant-loop-point : goal.invariant-loop-point
invariant-loop-point l = record {
  last_in : pen_fits l.pen l.last ≡ true;
  rest_in : list_all (pen_fits l.pen) (drop l.point-index l.others) ≡ true;
  lined : AreLined l.fn.row l.fn.from l.others l.to l.pen l.v l.last (drop l.point-index l.others) l.row;
}
