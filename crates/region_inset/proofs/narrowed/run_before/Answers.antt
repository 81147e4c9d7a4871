use Rattle.std.proofs.Common.{◌≡◌, ℤ, pos, ◌+ℤ◌, ◌≤ℤ◌, ◌<ℤ◌, subst, rules, arith, SFits, w32, to_z}
use Rattle.std.proofs.lemmas.Int.{ints, to_z-of_z}
use Rattle.tb_geom.proofs.Steps.{fits_next}
use Rattle.pixel_rows.specs.Columns.{has_column}
use Rattle.region_inset.specs.Near.{IsRun}
use Rattle.region_inset.proofs.NearLemmas.{run_none}
use Rattle.region_inset.proofs.narrowed.run_before.Goals as goal

pub loop-x-init : goal.loop-x-init
loop-x-init c =
    let fits_from = c.ranges.from in
    let fits_to = c.ranges.to in
    let order = c.requires.order in
    simp to_z-of_z (record {
      low = omega (arith, ints);
      high = order;
      run = run_none c.args.all (has_column c.args.columns.now) c.args.from;
    })

pub next_run-alike-requires : goal.next_run-alike-requires
next_run-alike-requires c =
    let fits_from = c.ranges.from in
    let fits_to = c.ranges.to in
    let x : ℤ = to_z w32 c.loop-x.x-bits in
    let low = c.requires.from.0 in
    let high = c.requires.to.1 in
    let run = c.loop-x.invariant.run.high in
    let last = c.loop-x.invariant.high in
    omega (arith, ints)

pub loop-x-preserved : goal.loop-x-preserved
loop-x-preserved c =
    let fits_from = c.ranges.from in
    let fits_to = c.ranges.to in
    let x : ℤ = to_z w32 c.loop-x.x-bits in
    let fits_x : SFits w32 x = search rules in
    let low = c.loop-x.invariant.low in
    let below : x <ℤ c.args.to = search (rules, ints) in
    let fits : SFits w32 (x +ℤ pos 1) = fits_next _ _ fits_x fits_to below in
    let fits_n : SFits w32 c.next_run-alike.result = search rules in
    let run = simp to_z-of_z at c.loop-x.invariant.run in
    let step = c.next_run-alike.ensures in
    simp to_z-of_z (record {
      low = omega (arith, ints);
      high = omega (arith, ints);
      run = step c.args.from (simp to_z-of_z at low) run;
    })

pub returns : goal.returns
returns c =
    let fits_from = c.ranges.from in
    let fits_to = c.ranges.to in
    let x : ℤ = to_z w32 c.loop-x.x-bits in
    let past : c.args.to ≤ℤ x = search (rules, ints) in
    let high = c.loop-x.invariant.high in
    let end : x ≡ c.args.to = omega (arith, ints) in
    let run = simp to_z-of_z at c.loop-x.invariant.run in
    subst (λ z. IsRun c.args.all (has_column c.args.columns.now) c.args.from z (to_z w32 c.loop-x.alike-bits)) end run
