use Rattle.std.proofs.Common.{◌<ℤ◌, rules, SFits, w32}
use Rattle.std.proofs.lemmas.Int.{ints, to_z-of_z}
use Rattle.tb_geom.specs.Pixels.{holds}
use Rattle.region_inset.proofs.InsetLemmas.{steady_above, steady_below}
use Rattle.region_inset.proofs.inset_row.turns_at.Goals.{then-v-bounds-via-then-v-bounds, then-v-bounds-via-else-v-bounds+then-bounds-v}
use Rattle.region_inset.proofs.inset_row.turns_at.Goals as goal

pub returns-then-v-bounds : goal.returns-then-v-bounds
returns-then-v-bounds c = λ _.
    let fits_v = c.ranges.v in
    let fits_top : SFits w32 c.region_bounds-bounds.result.top = search rules in
    let fits_bottom : SFits w32 c.region_bounds-bounds.result.bottom = search rules in
    elim c.then-v-bounds.branch [
      | then-v-bounds-via-then-v-bounds w ↦
          let over : c.args.v <ℤ c.region_bounds-bounds.result.top = search (rules, ints) in
          steady_above (holds c.args.region.now) c.region_bounds-bounds.result c.args.v c.region_bounds-bounds.ensures.bounds.around over
      | then-v-bounds-via-else-v-bounds+then-bounds-v w ↦
          let under : c.region_bounds-bounds.result.bottom <ℤ c.args.v = search (rules, ints) in
          steady_below (holds c.args.region.now) c.region_bounds-bounds.result c.args.v c.region_bounds-bounds.ensures.bounds.around under
    ]

pub returns : goal.returns
returns c = λ none.
    let fits_v = c.ranges.v in
    simp to_z-of_z at (c.has_points.ensures none)
