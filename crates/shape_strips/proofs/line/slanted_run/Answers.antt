use Rattle.std.proofs.Common.{◌≡◌, ◌∙◌, ◌&&◌, pos, ◌+ℤ◌, ◌-ℤ◌, ◌*ℤ◌, arith, SFits, w32, w64, rules}
use Rattle.std.specs.Int.{int_min, int_max}
use Rattle.std.proofs.lemmas.Int.{ints, to_z-of_z}
use Rattle.tb_geom.specs.Rects.{between}
use Rattle.shape_strips.proofs.LineNumbers.{is_step, are_columns, origin_small}
use Rattle.shape_strips.proofs.JoinLemmas.{falling_joined, rising_joined}
use Rattle.shape_strips.proofs.line.slanted_run.Goals as goal

pub overflow_add-right : goal.overflow_add-right
overflow_add-right c =
    let fits_m : SFits w32 c.max-right.result = search rules in
    let most : c.max-right.result ≡ int_max c.args.upper.h c.args.lower.h = search rules in
    let are = are_columns c.args.upper c.args.lower c.requires.upper_in c.requires.lower_in in
    simp to_z-of_z (rw most are.right_fits)

pub invariant_of-slope : goal.invariant_of-slope
invariant_of-slope c =
    let fits_uh : SFits w32 c.args.upper.h = search rules in
    let fits_uv : SFits w32 c.args.upper.v = search rules in
    let fits_lh : SFits w32 c.args.lower.h = search rules in
    let fits_lv : SFits w32 c.args.lower.v = search rules in
    let fits_d : SFits w64 c.far-down.result = search rules in
    let down = simp to_z-of_z at c.far-down.ensures.value in
    let slanted = c.requires.slanted in
    let step = is_step c.far-down.result (omega (arith, ints)) c.far-down.ensures.small in
    let fits_s = step.fits in
    simp to_z-of_z (record { origin_in = origin_small c.args.upper c.requires.upper_in; rising = step.rising; small = step.small })

pub columns-requires-clause-left_in : goal.columns-requires-clause-left_in
columns-requires-clause-left_in c =
    let fits_l : SFits w32 c.min-left.result = search rules in
    let fits_m : SFits w32 c.max-right.result = search rules in
    let least : c.min-left.result ≡ int_min c.args.upper.h c.args.lower.h = search rules in
    let most : c.max-right.result ≡ int_max c.args.upper.h c.args.lower.h = search rules in
    let are = are_columns c.args.upper c.args.lower c.requires.upper_in c.requires.lower_in in
    let fits_r : SFits w32 (c.max-right.result +ℤ pos 1) = rw most are.right_fits in
    simp to_z-of_z (rw least are.left_in)

pub columns-requires-clause-right_in : goal.columns-requires-clause-right_in
columns-requires-clause-right_in c =
    let fits_l : SFits w32 c.min-left.result = search rules in
    let fits_m : SFits w32 c.max-right.result = search rules in
    let least : c.min-left.result ≡ int_min c.args.upper.h c.args.lower.h = search rules in
    let most : c.max-right.result ≡ int_max c.args.upper.h c.args.lower.h = search rules in
    let are = are_columns c.args.upper c.args.lower c.requires.upper_in c.requires.lower_in in
    let fits_r : SFits w32 (c.max-right.result +ℤ pos 1) = rw most are.right_fits in
    simp to_z-of_z (rw most are.right_in)

pub columns-requires-clause-order : goal.columns-requires-clause-order
columns-requires-clause-order c =
    let fits_l : SFits w32 c.min-left.result = search rules in
    let fits_m : SFits w32 c.max-right.result = search rules in
    let least : c.min-left.result ≡ int_min c.args.upper.h c.args.lower.h = search rules in
    let most : c.max-right.result ≡ int_max c.args.upper.h c.args.lower.h = search rules in
    let are = are_columns c.args.upper c.args.lower c.requires.upper_in c.requires.lower_in in
    let fits_r : SFits w32 (c.max-right.result +ℤ pos 1) = rw most are.right_fits in
    simp to_z-of_z (rw (least, most) are.order)

pub returns-then-across-lt0-clause-joined : goal.returns-then-across-lt0-clause-joined
returns-then-across-lt0-clause-joined c =
    let fits_uh : SFits w32 c.args.upper.h = search rules in
    let fits_uv : SFits w32 c.args.upper.v = search rules in
    let fits_lh : SFits w32 c.args.lower.h = search rules in
    let fits_lv : SFits w32 c.args.lower.v = search rules in
    let fits_d : SFits w64 c.far-down.result = search rules in
    let down = simp to_z-of_z at c.far-down.ensures.value in
    let slanted = c.requires.slanted in
    let step = is_step c.far-down.result (omega (arith, ints)) c.far-down.ensures.small in
    let fits_s = step.fits in
    let fits_l : SFits w32 c.min-left.result = search rules in
    let fits_m : SFits w32 c.max-right.result = search rules in
    let least : c.min-left.result ≡ int_min c.args.upper.h c.args.lower.h = search rules in
    let most : c.max-right.result ≡ int_max c.args.upper.h c.args.lower.h = search rules in
    let are = are_columns c.args.upper c.args.lower c.requires.upper_in c.requires.lower_in in
    let fits_r : SFits w32 (c.max-right.result +ℤ pos 1) = rw most are.right_fits in
    let fits_f = c.ranges.first in
    let fits_g = c.ranges.last in
    let fits_w : SFits w64 c.far-across.result = search rules in
    let fits_a : SFits w64 c.far-above.result = search rules in
    let fits_b : SFits w64 c.far-below.result = search rules in
    let fits_i : SFits w64 c.row_reach-reach.result.low = search rules in
    let fits_j : SFits w64 c.row_reach-reach.result.high = search rules in
    let fits_p : SFits w64 c.twice-least.result = search rules in
    let fits_q : SFits w64 c.twice.result = search rules in
    let across = simp to_z-of_z at c.far-across.ensures.value in
    let above = simp to_z-of_z at c.far-above.ensures.value in
    let below = simp to_z-of_z at c.far-below.ensures.value in
    let reach = rw (across, down) at (simp to_z-of_z at c.row_reach-reach.ensures.is) in
    let from = simp to_z-of_z at c.twice-least.ensures.value in
    let to = simp to_z-of_z at c.twice.ensures.value in
    let told = simp to_z-of_z at c.columns.ensures.run in
    let test = c.if-across-lt0.true in
    rising_joined c.args.upper c.args.lower c.args.first c.args.last c.row_reach-reach.result.low c.row_reach-reach.result.high c.columns.result
    c.requires.slanted c.requires.top c.requires.order c.requires.bottom reach (omega (arith, ints))
    (λ h. told h ∙ (λ i. between (least i) h (most i +ℤ pos 1)
    && between ((from ∙ (λ j. (pos 2 *ℤ (across j *ℤ below j)) +ℤ c.row_reach-reach.result.low)) i) ((pos 2 *ℤ down i) *ℤ (h -ℤ c.args.upper.h))
    ((to ∙ (λ j. (pos 2 *ℤ (across j *ℤ above j)) +ℤ c.row_reach-reach.result.high)) i)))

pub returns-then-across-lt0-clause-right : goal.returns-then-across-lt0-clause-right
returns-then-across-lt0-clause-right c =
    let fits_l : SFits w32 c.min-left.result = search rules in
    let fits_m : SFits w32 c.max-right.result = search rules in
    let least : c.min-left.result ≡ int_min c.args.upper.h c.args.lower.h = search rules in
    let most : c.max-right.result ≡ int_max c.args.upper.h c.args.lower.h = search rules in
    let are = are_columns c.args.upper c.args.lower c.requires.upper_in c.requires.lower_in in
    let fits_r : SFits w32 (c.max-right.result +ℤ pos 1) = rw most are.right_fits in
    let high = simp to_z-of_z at c.columns.ensures.high in
    omega (arith, ints)

pub invariant_of-slope-2 : goal.invariant_of-slope-2
invariant_of-slope-2 c =
    let fits_uh : SFits w32 c.args.upper.h = search rules in
    let fits_uv : SFits w32 c.args.upper.v = search rules in
    let fits_lh : SFits w32 c.args.lower.h = search rules in
    let fits_lv : SFits w32 c.args.lower.v = search rules in
    let fits_d : SFits w64 c.far-down.result = search rules in
    let down = simp to_z-of_z at c.far-down.ensures.value in
    let slanted = c.requires.slanted in
    let step = is_step c.far-down.result (omega (arith, ints)) c.far-down.ensures.small in
    let fits_s = step.fits in
    simp to_z-of_z (record { origin_in = origin_small c.args.upper c.requires.upper_in; rising = step.rising; small = step.small })

pub columns-requires-2-clause-left_in : goal.columns-requires-2-clause-left_in
columns-requires-2-clause-left_in c =
    let fits_l : SFits w32 c.min-left.result = search rules in
    let fits_m : SFits w32 c.max-right.result = search rules in
    let least : c.min-left.result ≡ int_min c.args.upper.h c.args.lower.h = search rules in
    let most : c.max-right.result ≡ int_max c.args.upper.h c.args.lower.h = search rules in
    let are = are_columns c.args.upper c.args.lower c.requires.upper_in c.requires.lower_in in
    let fits_r : SFits w32 (c.max-right.result +ℤ pos 1) = rw most are.right_fits in
    simp to_z-of_z (rw least are.left_in)

pub columns-requires-2-clause-right_in : goal.columns-requires-2-clause-right_in
columns-requires-2-clause-right_in c =
    let fits_l : SFits w32 c.min-left.result = search rules in
    let fits_m : SFits w32 c.max-right.result = search rules in
    let least : c.min-left.result ≡ int_min c.args.upper.h c.args.lower.h = search rules in
    let most : c.max-right.result ≡ int_max c.args.upper.h c.args.lower.h = search rules in
    let are = are_columns c.args.upper c.args.lower c.requires.upper_in c.requires.lower_in in
    let fits_r : SFits w32 (c.max-right.result +ℤ pos 1) = rw most are.right_fits in
    simp to_z-of_z (rw most are.right_in)

pub columns-requires-2-clause-order : goal.columns-requires-2-clause-order
columns-requires-2-clause-order c =
    let fits_l : SFits w32 c.min-left.result = search rules in
    let fits_m : SFits w32 c.max-right.result = search rules in
    let least : c.min-left.result ≡ int_min c.args.upper.h c.args.lower.h = search rules in
    let most : c.max-right.result ≡ int_max c.args.upper.h c.args.lower.h = search rules in
    let are = are_columns c.args.upper c.args.lower c.requires.upper_in c.requires.lower_in in
    let fits_r : SFits w32 (c.max-right.result +ℤ pos 1) = rw most are.right_fits in
    simp to_z-of_z (rw (least, most) are.order)

pub returns-clause-joined : goal.returns-clause-joined
returns-clause-joined c =
    let fits_uh : SFits w32 c.args.upper.h = search rules in
    let fits_uv : SFits w32 c.args.upper.v = search rules in
    let fits_lh : SFits w32 c.args.lower.h = search rules in
    let fits_lv : SFits w32 c.args.lower.v = search rules in
    let fits_d : SFits w64 c.far-down.result = search rules in
    let down = simp to_z-of_z at c.far-down.ensures.value in
    let slanted = c.requires.slanted in
    let step = is_step c.far-down.result (omega (arith, ints)) c.far-down.ensures.small in
    let fits_s = step.fits in
    let fits_l : SFits w32 c.min-left.result = search rules in
    let fits_m : SFits w32 c.max-right.result = search rules in
    let least : c.min-left.result ≡ int_min c.args.upper.h c.args.lower.h = search rules in
    let most : c.max-right.result ≡ int_max c.args.upper.h c.args.lower.h = search rules in
    let are = are_columns c.args.upper c.args.lower c.requires.upper_in c.requires.lower_in in
    let fits_r : SFits w32 (c.max-right.result +ℤ pos 1) = rw most are.right_fits in
    let fits_f = c.ranges.first in
    let fits_g = c.ranges.last in
    let fits_w : SFits w64 c.far-across.result = search rules in
    let fits_a : SFits w64 c.far-above.result = search rules in
    let fits_b : SFits w64 c.far-below.result = search rules in
    let fits_i : SFits w64 c.row_reach-reach.result.low = search rules in
    let fits_j : SFits w64 c.row_reach-reach.result.high = search rules in
    let fits_p : SFits w64 c.twice-least-2.result = search rules in
    let fits_q : SFits w64 c.twice-2.result = search rules in
    let across = simp to_z-of_z at c.far-across.ensures.value in
    let above = simp to_z-of_z at c.far-above.ensures.value in
    let below = simp to_z-of_z at c.far-below.ensures.value in
    let reach = rw (across, down) at (simp to_z-of_z at c.row_reach-reach.ensures.is) in
    let from = simp to_z-of_z at c.twice-least-2.ensures.value in
    let to = simp to_z-of_z at c.twice-2.ensures.value in
    let told = simp to_z-of_z at c.columns-2.ensures.run in
    let test = c.if-across-lt0.false in
    falling_joined c.args.upper c.args.lower c.args.first c.args.last c.row_reach-reach.result.low c.row_reach-reach.result.high c.columns-2.result
    c.requires.slanted c.requires.top c.requires.order c.requires.bottom reach (omega (arith, ints))
    (λ h. told h ∙ (λ i. between (least i) h (most i +ℤ pos 1)
    && between ((from ∙ (λ j. (pos 2 *ℤ (across j *ℤ above j)) +ℤ c.row_reach-reach.result.low)) i) ((pos 2 *ℤ down i) *ℤ (h -ℤ c.args.upper.h))
    ((to ∙ (λ j. (pos 2 *ℤ (across j *ℤ below j)) +ℤ c.row_reach-reach.result.high)) i)))

pub returns-clause-right : goal.returns-clause-right
returns-clause-right c =
    let fits_l : SFits w32 c.min-left.result = search rules in
    let fits_m : SFits w32 c.max-right.result = search rules in
    let least : c.min-left.result ≡ int_min c.args.upper.h c.args.lower.h = search rules in
    let most : c.max-right.result ≡ int_max c.args.upper.h c.args.lower.h = search rules in
    let are = are_columns c.args.upper c.args.lower c.requires.upper_in c.requires.lower_in in
    let fits_r : SFits w32 (c.max-right.result +ℤ pos 1) = rw most are.right_fits in
    let high = simp to_z-of_z at c.columns-2.ensures.high in
    omega (arith, ints)
