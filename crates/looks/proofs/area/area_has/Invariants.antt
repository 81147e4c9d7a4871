use Rattle.std.proofs.Common.{◌≡◌, take}
use Rattle.looks.specs.Areas.{area_holds}
use Rattle.looks.proofs.area.area_has.Given as goal

abbrev pub invariant-loop-piece : goal.invariant-loop-piece
invariant-loop-piece l = l.held ≡ area_holds (take l.piece-index l.pieces) l.point
