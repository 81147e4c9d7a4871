use Rattle.std.proofs.Common.{◌≡◌}
use Rattle.shape_arcs.specs.Directions.{quarters}
use Rattle.shape_arcs.specs.Sights.{IsNear}
use Rattle.shape_arcs.proofs.directions.turned.Given as goal

abbrev pub invariant-loop : goal.invariant-loop
invariant-loop l = record {
  is : l.turned ≡ quarters l.counter l.fn.direction;
  near : IsNear l.turned;
}
