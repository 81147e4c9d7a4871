use Rattle.std.proofs.Common.{ℤ, pos, ◌-ℤ◌, sym, ap, ◌∙◌, subst, rules, SFits, w32}
use Rattle.std.proofs.lemmas.Int.{to_z-of_z}
use Rattle.tb_geom.specs.declared.point.Point.{Point}
use Rattle.shape_arcs.specs.Sights.{IsNear}
use Rattle.shape_arcs.proofs.DirectionLemmas.{minus_is_neg, neg_fits, no_quarter, near_turned, one_quarter}
use Rattle.shape_arcs.proofs.directions.turned.Goals as goal

pub loop-init : goal.loop-init
loop-init c = record { is = no_quarter c.args.direction; near = c.requires }

pub loop-preserved : goal.loop-preserved
loop-preserved c =
    let near = c.loop.invariant.near in
    let fits_h : SFits w32 c.loop.turned.h = search rules in
    let fits_v : SFits w32 c.loop.turned.v = search rules in
    let fits_neg : SFits w32 (pos 0 -ℤ c.loop.turned.v) = neg_fits c.loop.turned.v near.v_low near.v_high in
    let at : ℤ → Point = λ z. record { h = z; v = c.loop.turned.h } in
    let turned = ap at (minus_is_neg c.loop.turned.v) in
    simp to_z-of_z (record {
      is = turned ∙ one_quarter c.loop.counter c.args.direction c.loop.turned c.loop.invariant.is;
      near = subst IsNear (sym turned) (near_turned c.loop.turned near);
    })
