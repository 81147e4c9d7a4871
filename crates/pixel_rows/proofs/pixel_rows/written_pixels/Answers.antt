use Rattle.std.proofs.Common.{[], ℤ, pos, ◌+ℤ◌, ◌≤ℤ◌, ◌<ℤ◌, ap, ◌∙◌, rules, arith, SFits, w32, to_z}
use Rattle.std.proofs.lemmas.Int.{ints, to_z-of_z}
use Rattle.tb_geom.proofs.Steps.{fits_next}
use Rattle.region_bytes.specs.Points.{points_of}
use Rattle.shape_strips.proofs.RangeLemmas.{sides_in, sum_fits}
use Rattle.pixel_rows.proofs.ChangeLemmas.{here_again, none_above, none_made, one_made, all_pixels, all_rows}
use Rattle.pixel_rows.proofs.pixel_rows.written_pixels.Goals as goal

pub loop-v-init : goal.loop-v-init
unfolding points_of
loop-v-init g c =
    let fits_top : SFits w32 c.args.bounds.top = search rules in
    let sides = sides_in c.args.bounds c.requires.in_range in
    let first = sides.top_high in
    let set = g.P.PixelRows.pixels c.args.set.now in
    simp to_z-of_z (record {
      low = omega (arith, ints);
      high = omega (arith, ints);
      above = none_above set c.args.bounds _ c.requires c.none-above.ensures;
      so_far = record { rows = []; made = none_made set c.args.bounds c.requires; written = c.new-out.ensures };
    })

pub write_next-requires-clause-top : goal.write_next-requires-clause-top
write_next-requires-clause-top g c =
    let fits_top : SFits w32 c.args.bounds.top = search rules in
    let fits_bottom : SFits w32 c.args.bounds.bottom = search rules in
    let v : ℤ = to_z w32 c.loop-v.v-bits in
    let fits_v : SFits w32 v = search rules in
    let sides = sides_in c.args.bounds c.requires.in_range in
    let first = sides.top_low in
    let last = sides.bottom_high in
    let fits_end : SFits w32 (c.args.bounds.bottom +ℤ pos 1) = sum_fits c.args.bounds.bottom 1 sides.bottom_low last (omega arith) in
    let low = c.loop-v.invariant.low in
    let below : v <ℤ (c.args.bounds.bottom +ℤ pos 1) = search (rules, ints) in
    (omega (arith, ints), omega (arith, ints))

pub write_next-requires-clause-above : goal.write_next-requires-clause-above
write_next-requires-clause-above g c = c.loop-v.invariant.above

pub loop-v-preserved : goal.loop-v-preserved
loop-v-preserved g c =
    let fits_top : SFits w32 c.args.bounds.top = search rules in
    let fits_bottom : SFits w32 c.args.bounds.bottom = search rules in
    let v : ℤ = to_z w32 c.loop-v.v-bits in
    let fits_v : SFits w32 v = search rules in
    let sides = sides_in c.args.bounds c.requires.in_range in
    let first = sides.top_low in
    let last = sides.bottom_high in
    let fits_end : SFits w32 (c.args.bounds.bottom +ℤ pos 1) = sum_fits c.args.bounds.bottom 1 sides.bottom_low last (omega arith) in
    let low = c.loop-v.invariant.low in
    let below : v <ℤ (c.args.bounds.bottom +ℤ pos 1) = search (rules, ints) in
    let fits : SFits w32 (v +ℤ pos 1) = fits_next _ _ fits_v fits_end below in
    let set = g.P.PixelRows.pixels c.args.set.now in
    let i = c.loop-v.invariant.so_far in
    let more = c.write_next.ensures.rows i.rows i.written in
    simp to_z-of_z (record {
      low = omega (arith, ints);
      high = omega (arith, ints);
      above = λ h. c.write_next.ensures.above h ∙ ap (λ w. set (record { h = h; v = w })) (here_again v);
      so_far = record {
        rows = more.0;
        made = one_made set i.rows more.0 v i.made (omega (arith, ints), omega (arith, ints)) more.1;
        written = more.2;
      };
    })

pub returns : goal.returns
returns g c =
    let fits_bottom : SFits w32 c.args.bounds.bottom = search rules in
    let v : ℤ = to_z w32 c.loop-v.v-bits in
    let sides = sides_in c.args.bounds c.requires.in_range in
    let fits_end : SFits w32 (c.args.bounds.bottom +ℤ pos 1) = sum_fits c.args.bounds.bottom 1 sides.bottom_low sides.bottom_high (omega arith) in
    let past : (c.args.bounds.bottom +ℤ pos 1) ≤ℤ v = search (rules, ints) in
    let end : c.args.bounds.bottom <ℤ v = omega (arith, ints) in
    let set = g.P.PixelRows.pixels c.args.set.now in
    let i = c.loop-v.invariant.so_far in
    record {
      rows = i.rows;
      are_rows = all_rows set c.args.bounds i.rows v c.requires i.made end;
      pixels = all_pixels set c.args.bounds i.rows v c.requires i.made end;
      written = c.word.ensures _ _ i.written;
    }
