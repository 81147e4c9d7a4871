use Rattle.std.proofs.Common.{◌≤ℤ◌, ◌<ℤ◌, inl, inr, sym, ◌∙◌, arith, rules, SFits, w32}
use Rattle.std.proofs.lemmas.Int.{ints, to_z-of_z}
use Rattle.shape_arcs.specs.Directions.{direction}
use Rattle.shape_arcs.specs.Rays.{is_seen_from}
use Rattle.region_rows.specs.Edges.{alike}
use Rattle.shape_arcs.proofs.HalfLemmas.{out_of_rows, run_left, run_right}
use Rattle.shape_arcs.proofs.half.half_run.Goals.{then-rect-via-then-rect, then-rect-via-else-rect+then-v-rect, then-rect-via-else-rect+else-v-rect+then-rect-v}
use Rattle.shape_arcs.proofs.half.half_run.Goals as goal

pub returns-then-rect : goal.returns-then-rect
returns-then-rect c =
    let fits_left : SFits w32 c.args.rect.left = search rules in
    let fits_right : SFits w32 c.args.rect.right = search rules in
    let fits_top : SFits w32 c.args.rect.top = search rules in
    let fits_bottom : SFits w32 c.args.rect.bottom = search rules in
    let fits_v = c.ranges.v in
    λ h. c.empty.ensures h ∙ sym (out_of_rows c.args.rect h c.args.v (alike c.args.from (is_seen_from c.args.rect c.args.degree (record { h = h; v = c.args.v }))) (elim c.then-rect.branch [
      | then-rect-via-then-rect w ↦ inl (let test = simp to_z-of_z at w.if-rect.true in grind (arith, ints))
      | then-rect-via-else-rect+then-v-rect w ↦ inr (inl (let test = simp to_z-of_z at w.if-v-rect.true in grind (arith, ints)))
      | then-rect-via-else-rect+else-v-rect+then-rect-v w ↦ inr (inr (let test = simp to_z-of_z at w.if-rect-v.true in grind (arith, ints)))
    ]))

pub returns-then-turn-from : goal.returns-then-turn-from
returns-then-turn-from c =
    let fits_left : SFits w32 c.args.rect.left = search rules in
    let fits_right : SFits w32 c.args.rect.right = search rules in
    let fits_top : SFits w32 c.args.rect.top = search rules in
    let fits_bottom : SFits w32 c.args.rect.bottom = search rules in
    let fits_v = c.ranges.v in
    let fits_column : SFits w32 c.turn_at-turn.result.column = search rules in
    let fits_degree = c.ranges.degree in
    let below = c.if-v-rect.false in
    let above = c.if-rect-v.false in
    let top : c.args.rect.top ≤ℤ c.args.v = omega (arith, ints) in
    let bottom : c.args.v <ℤ c.args.rect.bottom = omega (arith, ints) in
    let turn = simp to_z-of_z at c.turn_at-turn.ensures in
    λ h. simp to_z-of_z (run_right c.args.rect (direction c.args.degree) c.args.v c.turn_at-turn.result.column h c.turn_at-turn.result.rises c.args.from top bottom turn c.if-turn-from.true)

pub returns : goal.returns
returns c =
    let fits_left : SFits w32 c.args.rect.left = search rules in
    let fits_right : SFits w32 c.args.rect.right = search rules in
    let fits_top : SFits w32 c.args.rect.top = search rules in
    let fits_bottom : SFits w32 c.args.rect.bottom = search rules in
    let fits_v = c.ranges.v in
    let fits_column : SFits w32 c.turn_at-turn.result.column = search rules in
    let fits_degree = c.ranges.degree in
    let below = c.if-v-rect.false in
    let above = c.if-rect-v.false in
    let top : c.args.rect.top ≤ℤ c.args.v = omega (arith, ints) in
    let bottom : c.args.v <ℤ c.args.rect.bottom = omega (arith, ints) in
    let turn = simp to_z-of_z at c.turn_at-turn.ensures in
    λ h. simp to_z-of_z (run_left c.args.rect (direction c.args.degree) c.args.v c.turn_at-turn.result.column h c.turn_at-turn.result.rises c.args.from top bottom turn c.if-turn-from.false)
