use Rattle.std.proofs.Common.{◌*ℤ◌, ◌-ℤ◌, ap, rules, SFits, w32}
use Rattle.std.proofs.lemmas.Int.{to_z-of_z}
use Rattle.shape_arcs.proofs.SightLemmas.{across_within, column_fits, narrow_fits}
use Rattle.shape_arcs.proofs.sight.stretched.Goals as goal

pub overflow_mul-result : goal.overflow_mul-result
overflow_mul-result c =
    let fits_first = c.ranges.first in
    let fits_last = c.ranges.last in
    let fits : SFits w32 (c.args.last -ℤ c.args.first) = column_fits c.args.first c.args.last c.requires.first_in c.requires.last_in in
    let fits_past : SFits w32 c.past_middle.result = search rules in
    simp to_z-of_z (narrow_fits c.past_middle.result (c.args.last -ℤ c.args.first) c.past_middle.ensures.within (across_within c.args.first c.args.last c.requires.first_in c.requires.last_in))

pub returns : goal.returns
returns c =
    let fits_low = c.ranges.low in
    let fits_high = c.ranges.high in
    let fits_at = c.ranges.at in
    let fits_first = c.ranges.first in
    let fits_last = c.ranges.last in
    let fits : SFits w32 (c.args.last -ℤ c.args.first) = column_fits c.args.first c.args.last c.requires.first_in c.requires.last_in in
    let fits_past : SFits w32 c.past_middle.result = search rules in
    let fits_product = narrow_fits c.past_middle.result (c.args.last -ℤ c.args.first) c.past_middle.ensures.within (across_within c.args.first c.args.last c.requires.first_in c.requires.last_in) in
    let value = simp to_z-of_z at c.past_middle.ensures.value in
    simp to_z-of_z (ap (λ z. z *ℤ (c.args.last -ℤ c.args.first)) value)
