use Rattle.std.proofs.Common.{◌≡◌, ℤ, pos, ◌+ℤ◌, ◌≤ℤ◌, ◌<ℤ◌, [], sym, ap, ◌∙◌, subst, rules, arith, SFits, w32, to_z}
use Rattle.std.proofs.lemmas.Int.{ints, to_z-of_z}
use Rattle.tb_geom.proofs.Steps.{fits_next}
use Rattle.region_bytes.proofs.Edges.{IsRow-nil}
use Rattle.region_rows.specs.Edges.{inside, IsRow}
use Rattle.region_rows.specs.Rows.{IsPushed}
use Rattle.shape_strips.proofs.RangeLemmas.{sides_in}
use Rattle.shape_region.specs.Polygons.{odd_edges}
use Rattle.shape_region.specs.Rows.{turns}
use Rattle.shape_region.proofs.MadeLemmas.{AreMade, none_made, one_made, made_pixels, made_rows}
use Rattle.shape_region.proofs.pass.pass_rows.Goals as goal

pub loop-v-init : goal.loop-v-init
loop-v-init c =
    let fits_top : SFits w32 c.args.bounds.top = search rules in
    let order = c.requires.order in
    let made = none_made (odd_edges c.args.first c.args.others.now c.args.first) c.args.bounds c.requires.bounds in
    simp to_z-of_z (record {
      low = omega (arith, ints);
      high = omega (arith, ints);
      made = rw (c.new-rows.ensures.items, c.new-above.ensures) made;
    })

pub loop-v-preserved : goal.loop-v-preserved
loop-v-preserved c =
    let fits_top : SFits w32 c.args.bounds.top = search rules in
    let fits_bottom : SFits w32 c.args.bounds.bottom = search rules in
    let v : ℤ = to_z w32 c.loop-v.v-bits in
    let fits_v : SFits w32 v = search rules in
    let low = c.loop-v.invariant.low in
    let below : v <ℤ c.args.bounds.bottom = search (rules, ints) in
    let fits : SFits w32 (v +ℤ pos 1) = fits_next _ _ fits_v fits_bottom below in
    let sides = sides_in c.args.bounds c.requires.bounds.in_range in
    let first = sides.top_low in
    let last = sides.bottom_high in
    let set = odd_edges c.args.first c.args.others.now c.args.first in
    let row = c.keep.new.kept.items in
    let kept : row ≡ c.row_crossings.new.columns.items = c.keep.ensures ∙ c.as_slice-in-loop-v-2.ensures.value in
    let is_row : IsRow row = subst IsRow (sym kept) c.row_crossings.ensures.row in
    let crossed = c.row_crossings.ensures.pixels in
    let pixels : (h : ℤ) → inside row h ≡ set (record { h = h; v = v }) = λ h. ap (λ xs. inside xs h) kept ∙ crossed h in
    let pushed : IsPushed c.loop-v.rows.items c.push_long_turns.new.rows.items v (turns c.as_slice.result.now c.as_slice-in-loop-v.result.now) = c.in_ok-push_long_turns.ensures in
    let above_is = c.as_slice.ensures.value in
    let row_is = c.as_slice-in-loop-v.ensures.value ∙ sym kept in
    let turned = subst (λ xs. IsPushed c.loop-v.rows.items c.push_long_turns.new.rows.items v (turns xs row)) above_is
    (subst (λ xs. IsPushed c.loop-v.rows.items c.push_long_turns.new.rows.items v (turns c.as_slice.result.now xs)) row_is pushed) in
    let made = one_made set c.loop-v.rows.items c.push_long_turns.new.rows.items c.loop-v.above.items row v c.loop-v.invariant.made (omega (arith, ints), omega (arith, ints)) is_row pixels turned in
    simp to_z-of_z (record { low = omega (arith, ints); high = omega (arith, ints); made = made })

pub push_long_turns-requires : goal.push_long_turns-requires
push_long_turns-requires c =
    let one = c.as_slice.ensures.fits in
    let two = c.as_slice-in-loop-v.ensures.fits in
    record {
      above = rw c.as_slice.ensures.value c.loop-v.invariant.made.row;
      row = rw c.as_slice-in-loop-v.ensures.value c.row_crossings.ensures.row;
      few = omega arith;
    }

pub push_long_turns-requires-2 : goal.push_long_turns-requires-2
push_long_turns-requires-2 c =
    let one = c.as_slice-2.ensures.fits in
    record { above = rw c.as_slice-2.ensures.value c.loop-v.invariant.made.row; row = IsRow-nil; few = omega arith }

pub returns-clause-pixels : goal.returns-clause-pixels
returns-clause-pixels c =
    let fits_bottom : SFits w32 c.args.bounds.bottom = search rules in
    let v : ℤ = to_z w32 c.loop-v.v-bits in
    let high = c.loop-v.invariant.high in
    let past : c.args.bounds.bottom ≤ℤ v = search (rules, ints) in
    let end : v ≡ c.args.bounds.bottom = omega (arith, ints) in
    let set = odd_edges c.args.first c.args.others.now c.args.first in
    let made = subst (AreMade set c.loop-v.rows.items c.loop-v.above.items) end c.loop-v.invariant.made in
    let pushed = simp to_z-of_z at c.in_ok-push_long_turns-2.ensures in
    made_pixels set c.args.bounds c.loop-v.rows.items c.push_long_turns-2.new.rows.items c.loop-v.above.items c.requires.bounds made
    (subst (λ xs. IsPushed c.loop-v.rows.items c.push_long_turns-2.new.rows.items c.args.bounds.bottom (turns xs [])) c.as_slice-2.ensures.value pushed)

pub returns-clause-rows : goal.returns-clause-rows
returns-clause-rows c =
    let fits_bottom : SFits w32 c.args.bounds.bottom = search rules in
    let v : ℤ = to_z w32 c.loop-v.v-bits in
    let high = c.loop-v.invariant.high in
    let past : c.args.bounds.bottom ≤ℤ v = search (rules, ints) in
    let end : v ≡ c.args.bounds.bottom = omega (arith, ints) in
    let set = odd_edges c.args.first c.args.others.now c.args.first in
    let made = subst (AreMade set c.loop-v.rows.items c.loop-v.above.items) end c.loop-v.invariant.made in
    let pushed = simp to_z-of_z at c.in_ok-push_long_turns-2.ensures in
    made_rows set c.args.bounds c.loop-v.rows.items c.push_long_turns-2.new.rows.items c.loop-v.above.items c.requires.bounds made
    (subst (λ xs. IsPushed c.loop-v.rows.items c.push_long_turns-2.new.rows.items c.args.bounds.bottom (turns xs [])) c.as_slice-2.ensures.value pushed)
