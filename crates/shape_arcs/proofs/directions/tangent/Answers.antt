use Rattle.std.proofs.Common.{◌≤◌, arith}
use Rattle.std.proofs.lemmas.Int.{ints}
use Rattle.shape_arcs.specs.Directions.{tangent}
use Rattle.shape_arcs.proofs.DirectionLemmas.{tangent_near, cast_small, small_fits}
use Rattle.shape_arcs.proofs.directions.tangent.Goals as goal

pub overflow_cast-result : goal.overflow_cast-result
unfolding tangent
overflow_cast-result c = small_fits (tangent c.args.degree) (tangent_near c.args.degree c.requires)

pub returns-clause-value : goal.returns-clause-value
unfolding tangent
returns-clause-value c = cast_small (tangent c.args.degree) (tangent_near c.args.degree c.requires)

pub returns-clause-low : goal.returns-clause-low
unfolding tangent
returns-clause-low c = rw (cast_small (tangent c.args.degree) (tangent_near c.args.degree c.requires)) (omega (arith, ints))

pub returns-clause-high : goal.returns-clause-high
unfolding tangent
returns-clause-high c =
    let near : tangent c.args.degree ≤ 65536 = tangent_near c.args.degree c.requires in
    rw (cast_small (tangent c.args.degree) near) (omega (arith, ints))
