use Rattle.std.proofs.Common.{true, false, pos, ◌-ℤ◌, sym, ap, ◌∙◌, subst, rules, SFits, w32}
use Rattle.std.proofs.lemmas.Int.{to_z-of_z}
use Rattle.tb_geom.specs.declared.point.Point.{Point}
use Rattle.shape_arcs.specs.Directions.{direction}
use Rattle.shape_arcs.specs.Sights.{IsTurn, PointsSomewhere, PointsUp, opposite}
use Rattle.shape_arcs.proofs.DirectionLemmas.{direction_somewhere}
use Rattle.shape_arcs.proofs.RayLemmas.{is_opposite, near_opposite, turn_back}
use Rattle.shape_arcs.proofs.ray.turn_at.Goals as goal

pub first_from-requires-clause-up : goal.first_from-requires-clause-up
first_from-requires-clause-up c = c.points_up-rises.ensures.up c.if-rises.true

pub first_from-requires-2-clause-up : goal.first_from-requires-2-clause-up
first_from-requires-2-clause-up c =
    let d : Point = c.direction-direction.result in
    let fits_h : SFits w32 c.direction-direction.result.h = search rules in
    let fits_v : SFits w32 c.direction-direction.result.v = search rules in
    let fits = near_opposite c.direction-direction.result c.direction-direction.ensures.near in
    let fits_nh : SFits w32 (pos 0 -ℤ c.direction-direction.result.h) = fits.0 in
    let fits_nv : SFits w32 (pos 0 -ℤ c.direction-direction.result.v) = fits.1 in
    let fits_degree = c.ranges.degree in
    let value = simp to_z-of_z at c.direction-direction.ensures.value in
    let some : PointsSomewhere c.direction-direction.result = subst PointsSomewhere (sym value) (direction_somewhere c.args.degree) in
    simp to_z-of_z (subst PointsUp (is_opposite c.direction-direction.result) (c.points_up-rises.ensures.down c.if-rises.false some))

pub returns : goal.returns
returns c =
    let fits_h : SFits w32 c.direction-direction.result.h = search rules in
    let fits_v : SFits w32 c.direction-direction.result.v = search rules in
    let fits = near_opposite c.direction-direction.result c.direction-direction.ensures.near in
    let fits_nh : SFits w32 (pos 0 -ℤ c.direction-direction.result.h) = fits.0 in
    let fits_nv : SFits w32 (pos 0 -ℤ c.direction-direction.result.v) = fits.1 in
    let fits_degree = c.ranges.degree in
    let fits_at = c.ranges.v in
    let fits_column : SFits w32 c.first_from-2.result = search rules in
    let value = simp to_z-of_z at c.direction-direction.ensures.value in
    let told = simp to_z-of_z at c.first_from-2.ensures in
    let back = subst (λ o. IsTurn c.args.rect o c.args.v c.first_from-2.result true) (sym (is_opposite c.direction-direction.result) ∙ ap opposite value) told in
    simp to_z-of_z (subst (IsTurn c.args.rect (direction c.args.degree) c.args.v c.first_from-2.result) (sym c.if-rises.false)
    (turn_back c.args.rect (direction c.args.degree) c.args.v c.first_from-2.result (direction_somewhere c.args.degree) back))
