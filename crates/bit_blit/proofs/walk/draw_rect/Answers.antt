use Rattle.std.proofs.Common.{◌∙◌, refl, rules, arith, ℤ, pos, ◌+ℤ◌, ◌≤ℤ◌, ◌<ℤ◌, SFits, w32, to_z}
use Rattle.std.proofs.lemmas.Int.{ints, to_z-of_z}
use Rattle.bit_blit.specs.Draws.{DrawsOnce, in_row}
use Rattle.bit_blit.proofs.OnceLemmas.{Once-of, Once-none, Once-where, Once-on_map}
use Rattle.tb_geom.proofs.Steps.{fits_next}
use Rattle.bit_blit.proofs.WalkLemmas.{rows_step, in_rows-none, in_rows-end, row-in_rect, shared-on_map, shared-where}
use Rattle.bit_blit.proofs.walk.draw_rect.Goals as goal

pub loop-v-init : goal.loop-v-init
loop-v-init g c =
    let shared = c.sect-shared.result in
    let fits_t : SFits w32 shared.top = search rules in
    simp to_z-of_z (record {
      low = omega (arith, ints);
      high = λ e. e;
      none = λ e. refl;
      drawn = Once-none _ _ _ (λ x on. in_rows-none shared.left shared.right shared.top x);
    })

pub draw_run-requires : goal.draw_run-requires
draw_run-requires g c =
    let shared = c.sect-shared.result in
    let fits_l : SFits w32 shared.left = search rules in
    let fits_r : SFits w32 shared.right = search rules in
    let fits_b : SFits w32 shared.bottom = search rules in
    let v : ℤ = to_z w32 c.loop-v.v-bits in
    let below : v <ℤ shared.bottom = search (rules, ints) in
    simp to_z-of_z (λ x e.
    Once-on_map _ _ _ _ c.loop-v.invariant.drawn x
    ∙ shared-on_map c.args.map.now c.bounds.result c.args.rect shared c.sect-shared.ensures.pixels c.bounds.ensures.pixels x
    (row-in_rect shared v x c.loop-v.invariant.low below e))

pub loop-v-preserved : goal.loop-v-preserved
loop-v-preserved g c =
    let shared = c.sect-shared.result in
    let fits_t : SFits w32 shared.top = search rules in
    let fits_b : SFits w32 shared.bottom = search rules in
    let fits_l : SFits w32 shared.left = search rules in
    let fits_r : SFits w32 shared.right = search rules in
    let v : ℤ = to_z w32 c.loop-v.v-bits in
    let fits_v : SFits w32 v = search rules in
    let low = c.loop-v.invariant.low in
    let below : v <ℤ shared.bottom = search (rules, ints) in
    let fits : SFits w32 (v +ℤ pos 1) = fits_next _ _ fits_v fits_b below in
    let row : DrawsOnce (in_row v shared.left shared.right) (g.R.Rule.value c.args.rule.now) c.loop-v.map c.draw_run.new.self = Once-of _ _ _ _ (simp to_z-of_z at c.draw_run.ensures.bits) (simp to_z-of_z at c.draw_run.ensures.counts) c.draw_run.ensures.width c.draw_run.ensures.height in
    simp to_z-of_z (record {
      low = omega (arith, ints);
      high = λ e. omega (arith, ints);
      none = λ e. omega (arith, ints);
      drawn = rows_step _ _ _ _ shared.left shared.right shared.top v low c.loop-v.invariant.drawn row;
    })

pub returns : goal.returns
returns g c =
    let shared = c.sect-shared.result in
    let fits_b : SFits w32 shared.bottom = search rules in
    let v : ℤ = to_z w32 c.loop-v.v-bits in
    let end : shared.bottom ≤ℤ v = search (rules, ints) in
    let all = c.loop-v.invariant in
    Once-where _ _ _ _ _
    (λ x on. in_rows-end shared.left shared.right shared.top v shared.bottom x end all.high all.none
    ∙ shared-where c.args.map.now c.bounds.result c.args.rect shared c.sect-shared.ensures.pixels c.bounds.ensures.pixels x on)
    all.drawn
