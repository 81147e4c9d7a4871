use Rattle.std.proofs.Common.{◌≡◌, [], List, ℤ, pos, ◌+ℤ◌, ◌≤ℤ◌, ◌<ℤ◌, sym, subst, rules, arith, SFits, w32, to_z}
use Rattle.std.proofs.lemmas.Int.{ints, to_z-of_z}
use Rattle.tb_geom.proofs.Steps.{fits_next}
use Rattle.region_bytes.specs.Points.{points_of}
use Rattle.region_bytes.proofs.Edges.{IsRow-nil}
use Rattle.region_rows.specs.Edges.{IsRow}
use Rattle.region_rows.specs.Rows.{IsPushed}
use Rattle.shape_strips.proofs.RangeLemmas.{sides_in}
use Rattle.shape_region.specs.Rows.{turns}
use Rattle.shape_region.proofs.MadeLemmas.{AreMade, none_made, one_made, made_pixels, made_rows}
use Rattle.shape_region.proofs.writing.written_rows.Goals as goal

pub loop-v-init : goal.loop-v-init
unfolding points_of
loop-v-init g c =
    let fits_top : SFits w32 c.args.bounds.top = search rules in
    let order = c.requires.order in
    let made = none_made (g.R.Rows.pixels c.args.form.now) c.args.bounds c.requires.bounds in
    simp to_z-of_z (record {
      low = omega (arith, ints);
      high = omega (arith, ints);
      so_far = record { rows = []; made = rw c.new-above.ensures made; written = c.new-out.ensures };
    })

pub write_turns-requires-clause-top : goal.write_turns-requires-clause-top
write_turns-requires-clause-top g c =
    let fits_top : SFits w32 c.args.bounds.top = search rules in
    let fits_bottom : SFits w32 c.args.bounds.bottom = search rules in
    let v : ℤ = to_z w32 c.loop-v.v-bits in
    let fits_v : SFits w32 v = search rules in
    let low = c.loop-v.invariant.low in
    let below : v <ℤ c.args.bounds.bottom = search (rules, ints) in
    let sides = sides_in c.args.bounds c.requires.bounds.in_range in
    let first = sides.top_low in
    let last = sides.bottom_high in
    (omega (arith, ints), omega (arith, ints))

pub write_turns-requires-clause-above : goal.write_turns-requires-clause-above
write_turns-requires-clause-above g c = c.loop-v.invariant.so_far.made.row

pub loop-v-preserved : goal.loop-v-preserved
loop-v-preserved g c =
    let fits_top : SFits w32 c.args.bounds.top = search rules in
    let fits_bottom : SFits w32 c.args.bounds.bottom = search rules in
    let v : ℤ = to_z w32 c.loop-v.v-bits in
    let fits_v : SFits w32 v = search rules in
    let low = c.loop-v.invariant.low in
    let below : v <ℤ c.args.bounds.bottom = search (rules, ints) in
    let fits : SFits w32 (v +ℤ pos 1) = fits_next _ _ fits_v fits_bottom below in
    let sides = sides_in c.args.bounds c.requires.bounds.in_range in
    let first = sides.top_low in
    let last = sides.bottom_high in
    let i = c.loop-v.invariant.so_far in
    let row = c.row_edges-row.ensures.pixels in
    let more = c.write_turns.ensures i.rows i.written in
    simp to_z-of_z (record {
      low = omega (arith, ints);
      high = omega (arith, ints);
      so_far = record {
        rows = more.0;
        made = one_made (g.R.Rows.pixels c.args.form.now) i.rows more.0 c.loop-v.above.items c.row_edges-row.result.items v i.made
            (omega (arith, ints), omega (arith, ints)) c.row_edges-row.ensures.row row more.1;
        written = more.2;
      };
    })

pub write_turns-requires-2-clause-top : goal.write_turns-requires-2-clause-top
write_turns-requires-2-clause-top g c =
    let fits_bottom : SFits w32 c.args.bounds.bottom = search rules in
    let sides = sides_in c.args.bounds c.requires.bounds.in_range in
    simp to_z-of_z (sides.bottom_low, sides.bottom_high)

pub write_turns-requires-2-clause-above : goal.write_turns-requires-2-clause-above
write_turns-requires-2-clause-above g c = c.loop-v.invariant.so_far.made.row

pub write_turns-requires-2-clause-row : goal.write_turns-requires-2-clause-row
write_turns-requires-2-clause-row g c = subst IsRow (sym c.new.ensures) IsRow-nil

pub returns : goal.returns
returns g c =
    let fits_bottom : SFits w32 c.args.bounds.bottom = search rules in
    let v : ℤ = to_z w32 c.loop-v.v-bits in
    let high = c.loop-v.invariant.high in
    let past : c.args.bounds.bottom ≤ℤ v = search (rules, ints) in
    let end : v ≡ c.args.bounds.bottom = omega (arith, ints) in
    let i = c.loop-v.invariant.so_far in
    let made = subst (AreMade (g.R.Rows.pixels c.args.form.now) i.rows c.loop-v.above.items) end i.made in
    let ensured = simp to_z-of_z at c.write_turns-2.ensures in
    let more = ensured i.rows i.written in
    let pushed = subst (λ (row : List ℤ). IsPushed i.rows more.0 c.args.bounds.bottom (turns c.loop-v.above.items row)) c.new.ensures more.1 in
    record {
      rows = more.0;
      are_rows = made_rows (g.R.Rows.pixels c.args.form.now) c.args.bounds i.rows more.0 c.loop-v.above.items c.requires.bounds made pushed;
      pixels = made_pixels (g.R.Rows.pixels c.args.form.now) c.args.bounds i.rows more.0 c.loop-v.above.items c.requires.bounds made pushed;
      written = c.word.ensures _ _ more.2;
    }
