use Rattle.std.proofs.Common.{◌≡◌, drop}
use Rattle.looks.specs.Spots.{first_part}
use Rattle.looks.proofs.spot.first_part.Given as goal

abbrev pub invariant-loop-spot : goal.invariant-loop-spot
invariant-loop-spot g l = first_part l.spots l.rest l.point ≡ first_part (drop l.spot-index l.spots) l.rest l.point
