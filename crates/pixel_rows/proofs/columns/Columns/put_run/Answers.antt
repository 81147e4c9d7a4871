use Rattle.std.proofs.Common.{◌≡◌, ◌||◌, ℤ, pos, ◌+ℤ◌, ◌≤ℤ◌, ◌<ℤ◌, sym, ap, ◌∙◌, subst, rules, arith, SFits, w32, to_z}
use Rattle.std.proofs.lemmas.Int.{ints, to_z-of_z}
use Rattle.tb_geom.proofs.Steps.{fits_next}
use Rattle.tb_geom.specs.Rects.{between}
use Rattle.pixel_rows.specs.Columns.{has_column}
use Rattle.pixel_rows.proofs.TurnedLemmas.{none_put, one_put}
use Rattle.pixel_rows.proofs.columns.Columns.put_run.Goals as goal

pub loop-h-init : goal.loop-h-init
loop-h-init c =
    let fits_left : SFits w32 c.args.run.left = search rules in
    let order = c.requires.order in
    simp to_z-of_z (record { low = omega (arith, ints); high = order; put = none_put c.args.run.left c.args.self.now })

pub loop-h-preserved : goal.loop-h-preserved
loop-h-preserved c =
    let fits_left : SFits w32 c.args.run.left = search rules in
    let fits_right : SFits w32 c.args.run.right = search rules in
    let h : ℤ = to_z w32 c.loop-h.h-bits in
    let fits_h : SFits w32 h = search rules in
    let low = c.loop-h.invariant.low in
    let below : h <ℤ c.args.run.right = search (rules, ints) in
    let fits : SFits w32 (h +ℤ pos 1) = fits_next _ _ fits_h fits_right below in
    let first = c.requires.left_in.0 in
    let last = c.requires.right_in.1 in
    simp to_z-of_z (record {
      low = omega (arith, ints);
      high = omega (arith, ints);
      put = one_put c.args.run.left h c.args.self.now c.loop-h.self c.put.new.self c.loop-h.invariant.put low (omega (arith, ints), omega (arith, ints)) c.put.ensures;
    })

pub returns : goal.returns
returns c =
    let fits_right : SFits w32 c.args.run.right = search rules in
    let h : ℤ = to_z w32 c.loop-h.h-bits in
    let past : c.args.run.right ≤ℤ h = search (rules, ints) in
    let high = c.loop-h.invariant.high in
    let end : h ≡ c.args.run.right = omega (arith, ints) in
    λ x. c.loop-h.invariant.put.each x ∙ ap (λ z. between c.args.run.left x z || has_column c.args.self.now x) end
