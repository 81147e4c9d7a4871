use Rattle.std.proofs.Common.{◌≡◌, take}
use Rattle.tb_geom.specs.declared.point.Point.{Point}
use Rattle.tb_geom.specs.Pixels.{holds}
use Rattle.looks.specs.Areas.{area_holds}
use Rattle.looks.proofs.area.area_region.Given as goal

abbrev pub invariant-loop-piece : goal.invariant-loop-piece
invariant-loop-piece l = (p : Point) → holds l.region p ≡ area_holds (take l.piece-index l.pieces) p
