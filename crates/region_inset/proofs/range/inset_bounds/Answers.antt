use Rattle.std.proofs.Common.{rules, SFits, w32}
use Rattle.std.proofs.lemmas.Int.{to_z-of_z}
use Rattle.tb_geom.specs.declared.rect.Rect.{Rect}
use Rattle.tb_geom.specs.Pixels.{holds}
use Rattle.shape_strips.proofs.RangeLemmas.{sides_in}
use Rattle.region_inset.proofs.ReachLemmas.{ends_of}
use Rattle.region_inset.proofs.RangeLemmas.{widened_around, widened_in_range, widened_is}
use Rattle.region_inset.proofs.range.inset_bounds.Goals as goal

pub overflow_sub-bounds : goal.overflow_sub-bounds
overflow_sub-bounds c =
    let fits_dh = c.ranges.dh in
    let fits_side : SFits w32 c.region_bounds-bounds.result.left = search rules in
    let fits_w : SFits w32 c.widening-across.result = search rules in
    let is = simp to_z-of_z at c.widening-across.ensures in
    let sides = sides_in c.region_bounds-bounds.result c.region_bounds-bounds.ensures.bounds.in_range in
    simp to_z-of_z (ends_of c.region_bounds-bounds.result.left c.args.dh c.widening-across.result (sides.left_low, sides.left_high) is c.requires.across).less_fits

pub overflow_sub-bounds-2 : goal.overflow_sub-bounds-2
overflow_sub-bounds-2 c =
    let fits_dv = c.ranges.dv in
    let fits_side : SFits w32 c.region_bounds-bounds.result.top = search rules in
    let fits_w : SFits w32 c.widening-down.result = search rules in
    let is = simp to_z-of_z at c.widening-down.ensures in
    let sides = sides_in c.region_bounds-bounds.result c.region_bounds-bounds.ensures.bounds.in_range in
    simp to_z-of_z (ends_of c.region_bounds-bounds.result.top c.args.dv c.widening-down.result (sides.top_low, sides.top_high) is c.requires.down).less_fits

pub overflow_add-bounds : goal.overflow_add-bounds
overflow_add-bounds c =
    let fits_dh = c.ranges.dh in
    let fits_side : SFits w32 c.region_bounds-bounds.result.right = search rules in
    let fits_w : SFits w32 c.widening-across.result = search rules in
    let is = simp to_z-of_z at c.widening-across.ensures in
    let sides = sides_in c.region_bounds-bounds.result c.region_bounds-bounds.ensures.bounds.in_range in
    simp to_z-of_z (ends_of c.region_bounds-bounds.result.right c.args.dh c.widening-across.result (sides.right_low, sides.right_high) is c.requires.across).more_fits

pub overflow_add-bounds-2 : goal.overflow_add-bounds-2
overflow_add-bounds-2 c =
    let fits_dv = c.ranges.dv in
    let fits_side : SFits w32 c.region_bounds-bounds.result.bottom = search rules in
    let fits_w : SFits w32 c.widening-down.result = search rules in
    let is = simp to_z-of_z at c.widening-down.ensures in
    let sides = sides_in c.region_bounds-bounds.result c.region_bounds-bounds.ensures.bounds.in_range in
    simp to_z-of_z (ends_of c.region_bounds-bounds.result.bottom c.args.dv c.widening-down.result (sides.bottom_low, sides.bottom_high) is c.requires.down).more_fits

pub returns : goal.returns
returns c =
    let fits_dh = c.ranges.dh in
    let fits_dv = c.ranges.dv in
    let r : Rect = c.region_bounds-bounds.result in
    let fits_left : SFits w32 c.region_bounds-bounds.result.left = search rules in
    let fits_top : SFits w32 c.region_bounds-bounds.result.top = search rules in
    let fits_right : SFits w32 c.region_bounds-bounds.result.right = search rules in
    let fits_bottom : SFits w32 c.region_bounds-bounds.result.bottom = search rules in
    let fits_a : SFits w32 c.widening-across.result = search rules in
    let fits_d : SFits w32 c.widening-down.result = search rules in
    let across = simp to_z-of_z at c.widening-across.ensures in
    let down = simp to_z-of_z at c.widening-down.ensures in
    let b = c.region_bounds-bounds.ensures.bounds in
    let sides = sides_in r b.in_range in
    let fits_1 = (ends_of r.left c.args.dh c.widening-across.result (sides.left_low, sides.left_high) across c.requires.across).less_fits in
    let fits_2 = (ends_of r.top c.args.dv c.widening-down.result (sides.top_low, sides.top_high) down c.requires.down).less_fits in
    let fits_3 = (ends_of r.right c.args.dh c.widening-across.result (sides.right_low, sides.right_high) across c.requires.across).more_fits in
    let fits_4 = (ends_of r.bottom c.args.dv c.widening-down.result (sides.bottom_low, sides.bottom_high) down c.requires.down).more_fits in
    let fits_l : SFits w32 c.max.result = search rules in
    let fits_t : SFits w32 c.max-2.result = search rules in
    let fits_r : SFits w32 c.min.result = search rules in
    let fits_b : SFits w32 c.min-2.result = search rules in
    let left = simp to_z-of_z at c.max.ensures.value in
    let top = simp to_z-of_z at c.max-2.ensures.value in
    let right = simp to_z-of_z at c.min.ensures.value in
    let bottom = simp to_z-of_z at c.min-2.ensures.value in
    let box : Rect = record { left = c.max.result; top = c.max-2.result; right = c.min.result; bottom = c.min-2.result } in
    let same = widened_is (holds c.args.region.now) r b.in_range b.around c.args.dh c.args.dv box c.widening-across.result c.widening-down.result across down left top right bottom in
    simp to_z-of_z (record {
      in_range = widened_in_range (holds c.args.region.now) r b.in_range b.around c.args.dh c.args.dv box same;
      around = widened_around (holds c.args.region.now) r b.in_range b.around c.args.dh c.args.dv box same;
    })
