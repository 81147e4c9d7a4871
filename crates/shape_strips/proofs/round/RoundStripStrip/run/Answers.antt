use Rattle.std.proofs.Common.{inl, inr, pos, ◌+ℤ◌, ◌-ℤ◌, ◌≤ℤ◌, ◌<ℤ◌, sym, ◌∙◌, arith, SFits, w32, rules}
use Rattle.std.proofs.lemmas.Int.{ints, to_z-of_z, to_z_pos}
use Rattle.shape_strips.proofs.RangeLemmas.{sides_in, sum_fits, rest_fits}
use Rattle.shape_strips.proofs.RoundLemmas.{outside_rows, round_run}
use Rattle.shape_strips.proofs.round.RoundStripStrip.run.Goals as goal
use Rattle.shape_strips.proofs.round.RoundStripStrip.run.Goals.{then-v-rect-via-then-v-rect, then-v-rect-via-else-v-rect+then-rect-v}

pub returns-then-v-rect : goal.returns-then-v-rect
returns-then-v-rect c =
    let fits_v = c.ranges.v in
    let fits_top : SFits w32 c.args.self.now.rect.top = search rules in
    let fits_bottom : SFits w32 c.args.self.now.rect.bottom = search rules in
    λ h. c.empty.ensures h ∙ sym (outside_rows c.args.self.now.rect c.args.self.now.corner (record { h = h; v = c.args.v }) (elim c.then-v-rect.branch [
      | then-v-rect-via-then-v-rect w ↦ inl (let test = simp to_z-of_z at w.if-v-rect.true in grind (arith, ints))
      | then-v-rect-via-else-v-rect+then-rect-v w ↦ inr (let test = simp to_z-of_z at w.if-rect-v.true in grind (arith, ints))
    ]))

pub overflow_add-result : goal.overflow_add-result
overflow_add-result c =
    let s = sides_in c.args.self.now.rect c.args.self.now.in_range in
    let fits : SFits w32 c.args.self.now.rect.left = search rules in
    let few = c.lacking-lacks.ensures.few in
    let cast = to_z_pos w32 c.lacking-lacks.result (omega (arith, few)) in
    rw cast (simp to_z-of_z (sum_fits c.args.self.now.rect.left c.lacking-lacks.result s.left_low s.left_high (omega (arith, few))))

pub overflow_sub-result : goal.overflow_sub-result
overflow_sub-result c =
    let s = sides_in c.args.self.now.rect c.args.self.now.in_range in
    let fits : SFits w32 c.args.self.now.rect.right = search rules in
    let few = c.lacking-lacks.ensures.few in
    let cast = to_z_pos w32 c.lacking-lacks.result (omega (arith, few)) in
    rw cast (simp to_z-of_z (rest_fits c.args.self.now.rect.right c.lacking-lacks.result s.right_low s.right_high (omega (arith, few))))

pub returns : goal.returns
returns c =
    let s = sides_in c.args.self.now.rect c.args.self.now.in_range in
    let fits_v = c.ranges.v in
    let fits_left : SFits w32 c.args.self.now.rect.left = search rules in
    let fits_right : SFits w32 c.args.self.now.rect.right = search rules in
    let fits_top : SFits w32 c.args.self.now.rect.top = search rules in
    let fits_bottom : SFits w32 c.args.self.now.rect.bottom = search rules in
    let few = c.lacking-lacks.ensures.few in
    let cast = to_z_pos w32 c.lacking-lacks.result (omega (arith, few)) in
    let fits_first : SFits w32 (c.args.self.now.rect.left +ℤ pos c.lacking-lacks.result) = sum_fits c.args.self.now.rect.left c.lacking-lacks.result s.left_low s.left_high (omega (arith, few)) in
    let fits_last : SFits w32 (c.args.self.now.rect.right -ℤ pos c.lacking-lacks.result) = rest_fits c.args.self.now.rect.right c.lacking-lacks.result s.right_low s.right_high (omega (arith, few)) in
    let edge = simp to_z-of_z at c.lacking-lacks.ensures.edge in
    let below = c.if-v-rect.false in
    let above = c.if-rect-v.false in
    let top : c.args.self.now.rect.top ≤ℤ c.args.v = omega (arith, ints) in
    let bottom : c.args.v <ℤ c.args.self.now.rect.bottom = omega (arith, ints) in
    rw cast (simp to_z-of_z (round_run c.args.self.now.rect c.args.self.now.corner c.lacking-lacks.result c.args.v top bottom edge))
