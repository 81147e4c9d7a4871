use Rattle.std.proofs.Common.{ℤ, pos, ◌+ℤ◌, ◌≤ℤ◌, ◌<ℤ◌, ap, ◌∙◌, sym, subst, rules, arith, SFits, w32, to_z}
use Rattle.std.proofs.lemmas.Int.{ints, to_z-of_z}
use Rattle.tb_geom.proofs.Steps.{fits_next}
use Rattle.shape_strips.proofs.RangeLemmas.{sides_in, sum_fits}
use Rattle.pixel_rows.proofs.ChangeLemmas.{AreMadeTo, all_pixels, all_rows, here_again, none_above, none_made, one_made}
use Rattle.region_inset.proofs.making.made_rows.Goals as goal

pub loop-v-init : goal.loop-v-init
loop-v-init g c =
    let fits_top : SFits w32 c.args.bounds.top = search rules in
    let sides = sides_in c.args.bounds c.requires.in_range in
    let first = sides.top_high in
    let set = g.P.PixelRows.pixels c.args.set.now in
    simp to_z-of_z (record {
      low = omega (arith, ints);
      high = omega (arith, ints);
      above = none_above set c.args.bounds _ c.requires c.none-above.ensures;
      made = subst (λ rows. AreMadeTo set rows c.args.bounds.top) (sym c.new-rows.ensures.items) (none_made set c.args.bounds c.requires);
    })

pub push_next-requires-clause-top : goal.push_next-requires-clause-top
push_next-requires-clause-top g c =
    let fits_top : SFits w32 c.args.bounds.top = search rules in
    let fits_bottom : SFits w32 c.args.bounds.bottom = search rules in
    let v : ℤ = to_z w32 c.loop-v.v-bits in
    let fits_v : SFits w32 v = search rules in
    let sides = sides_in c.args.bounds c.requires.in_range in
    let first = sides.top_low in
    let last = sides.bottom_high in
    let fits_end : SFits w32 (c.args.bounds.bottom +ℤ pos 1) = sum_fits c.args.bounds.bottom 1 sides.bottom_low last (omega arith) in
    let low = c.loop-v.invariant.low in
    let below : v <ℤ (c.args.bounds.bottom +ℤ pos 1) = search (rules, ints) in
    (omega (arith, ints), omega (arith, ints))

pub push_next-requires-clause-above : goal.push_next-requires-clause-above
push_next-requires-clause-above g c = c.loop-v.invariant.above

pub loop-v-preserved : goal.loop-v-preserved
loop-v-preserved g c =
    let fits_top : SFits w32 c.args.bounds.top = search rules in
    let fits_bottom : SFits w32 c.args.bounds.bottom = search rules in
    let v : ℤ = to_z w32 c.loop-v.v-bits in
    let fits_v : SFits w32 v = search rules in
    let sides = sides_in c.args.bounds c.requires.in_range in
    let first = sides.top_low in
    let last = sides.bottom_high in
    let fits_end : SFits w32 (c.args.bounds.bottom +ℤ pos 1) = sum_fits c.args.bounds.bottom 1 sides.bottom_low last (omega arith) in
    let low = c.loop-v.invariant.low in
    let below : v <ℤ (c.args.bounds.bottom +ℤ pos 1) = search (rules, ints) in
    let fits : SFits w32 (v +ℤ pos 1) = fits_next _ _ fits_v fits_end below in
    let set = g.P.PixelRows.pixels c.args.set.now in
    simp to_z-of_z (record {
      low = omega (arith, ints);
      high = omega (arith, ints);
      above = λ h. c.in_ok-push_next.ensures.above h ∙ ap (λ w. set (record { h = h; v = w })) (here_again v);
      made = one_made set c.loop-v.rows.items c.push_next.new.rows.items v c.loop-v.invariant.made (omega (arith, ints), omega (arith, ints)) c.in_ok-push_next.ensures.rows;
    })

pub returns-clause-pixels : goal.returns-clause-pixels
returns-clause-pixels g c =
    let fits_bottom : SFits w32 c.args.bounds.bottom = search rules in
    let v : ℤ = to_z w32 c.loop-v.v-bits in
    let sides = sides_in c.args.bounds c.requires.in_range in
    let fits_end : SFits w32 (c.args.bounds.bottom +ℤ pos 1) = sum_fits c.args.bounds.bottom 1 sides.bottom_low sides.bottom_high (omega arith) in
    let past : (c.args.bounds.bottom +ℤ pos 1) ≤ℤ v = search (rules, ints) in
    let end : c.args.bounds.bottom <ℤ v = omega (arith, ints) in
    all_pixels (g.P.PixelRows.pixels c.args.set.now) c.args.bounds c.loop-v.rows.items v c.requires c.loop-v.invariant.made end

pub returns-clause-rows : goal.returns-clause-rows
returns-clause-rows g c =
    let fits_bottom : SFits w32 c.args.bounds.bottom = search rules in
    let v : ℤ = to_z w32 c.loop-v.v-bits in
    let sides = sides_in c.args.bounds c.requires.in_range in
    let fits_end : SFits w32 (c.args.bounds.bottom +ℤ pos 1) = sum_fits c.args.bounds.bottom 1 sides.bottom_low sides.bottom_high (omega arith) in
    let past : (c.args.bounds.bottom +ℤ pos 1) ≤ℤ v = search (rules, ints) in
    let end : c.args.bounds.bottom <ℤ v = omega (arith, ints) in
    all_rows (g.P.PixelRows.pixels c.args.set.now) c.args.bounds c.loop-v.rows.items v c.requires c.loop-v.invariant.made end
