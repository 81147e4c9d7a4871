use Rattle.std.proofs.Common.{ℤ, ◌-ℤ◌, rules, arith, SFits, w32}
use Rattle.std.proofs.lemmas.Int.{ints, to_z-of_z}
use Rattle.pixel_rows.specs.Columns.{has_column}
use Rattle.region_inset.proofs.NearLemmas.{run_narrowed}
use Rattle.region_inset.proofs.ReachLemmas.{reach_within, window_around}
use Rattle.region_inset.proofs.narrowed.narrowed_at.Goals as goal

pub run_before-alike-requires-clause-from : goal.run_before-alike-requires-clause-from
run_before-alike-requires-clause-from c =
    let fits_h = c.ranges.h in
    let fits_d = c.ranges.d in
    let fits_r : SFits w32 c.reach-reach.result = search rules in
    let is = simp to_z-of_z at c.reach-reach.ensures in
    let w = window_around c.args.h c.args.d c.reach-reach.result c.requires.column is c.requires.distance in
    let fits_first = w.first_fits in
    simp to_z-of_z w.first

pub run_before-alike-requires-clause-to : goal.run_before-alike-requires-clause-to
run_before-alike-requires-clause-to c =
    let fits_h = c.ranges.h in
    let fits_d = c.ranges.d in
    let fits_r : SFits w32 c.reach-reach.result = search rules in
    let is = simp to_z-of_z at c.reach-reach.ensures in
    let w = window_around c.args.h c.args.d c.reach-reach.result c.requires.column is c.requires.distance in
    let fits_middle = w.middle_fits in
    let fits_last = w.last_fits in
    simp to_z-of_z w.last

pub run_before-alike-requires-clause-order : goal.run_before-alike-requires-clause-order
run_before-alike-requires-clause-order c =
    let fits_h = c.ranges.h in
    let fits_d = c.ranges.d in
    let fits_r : SFits w32 c.reach-reach.result = search rules in
    let is = simp to_z-of_z at c.reach-reach.ensures in
    let w = window_around c.args.h c.args.d c.reach-reach.result c.requires.column is c.requires.distance in
    let fits_first = w.first_fits in
    let fits_middle = w.middle_fits in
    let fits_last = w.last_fits in
    let order = w.order in
    simp to_z-of_z (omega (arith, ints))

pub decides-requires-clause-low : goal.decides-requires-clause-low
decides-requires-clause-low c =
    let fits_d = c.ranges.d in
    let fits_r : SFits w32 c.reach-reach.result = search rules in
    let is = simp to_z-of_z at c.reach-reach.ensures in
    simp to_z-of_z (reach_within c.args.d c.reach-reach.result is c.requires.distance).0

pub decides-requires-clause-high : goal.decides-requires-clause-high
decides-requires-clause-high c =
    let fits_d = c.ranges.d in
    let fits_r : SFits w32 c.reach-reach.result = search rules in
    let is = simp to_z-of_z at c.reach-reach.ensures in
    simp to_z-of_z (reach_within c.args.d c.reach-reach.result is c.requires.distance).1

pub returns : goal.returns
returns c =
    let fits_h = c.ranges.h in
    let fits_d = c.ranges.d in
    let r : ℤ = c.reach-reach.result in
    let fits_r : SFits w32 c.reach-reach.result = search rules in
    let fits_n : SFits w32 c.run_before-alike.result = search rules in
    let is = simp to_z-of_z at c.reach-reach.ensures in
    let all = simp to_z-of_z at c.narrows-all.ensures in
    let w = window_around c.args.h c.args.d c.reach-reach.result c.requires.column is c.requires.distance in
    let fits_first = w.first_fits in
    let fits_middle = w.middle_fits in
    let fits_last = w.last_fits in
    let run = simp to_z-of_z at c.run_before-alike.ensures in
    let long = simp to_z-of_z at c.decides.ensures.long in
    let short = simp to_z-of_z at c.decides.ensures.short in
    run_narrowed c.args.d (has_column c.args.columns.now) (c.args.h -ℤ r) c.args.h c.run_before-alike.result r c.narrows-all.result c.decides.result is all run (omega (arith, ints)) long short
