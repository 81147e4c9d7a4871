use Rattle.std.proofs.Common.{◌≡◌, ℤ, pos, ◌+ℤ◌, ◌≤ℤ◌, ◌<ℤ◌, sym, subst, rules, arith, SFits, w32, to_z}
use Rattle.std.proofs.lemmas.Int.{ints, to_z-of_z}
use Rattle.tb_geom.proofs.Steps.{fits_next}
use Rattle.region_bytes.proofs.Edges.{IsRow-nil}
use Rattle.region_rows.specs.Edges.{IsRow}
use Rattle.region_rows.specs.Rows.{IsPushed}
use Rattle.shape_strips.proofs.RangeLemmas.{sides_in}
use Rattle.shape_region.specs.Rows.{turns}
use Rattle.shape_region.proofs.MadeLemmas.{AreMade, none_made, one_made, made_pixels, made_rows}
use Rattle.shape_region.proofs.making.made_rows.Goals as goal

pub loop-v-init : goal.loop-v-init
loop-v-init g c =
    let fits_top : SFits w32 c.args.bounds.top = search rules in
    let order = c.requires.order in
    let made = none_made (g.R.Rows.pixels c.args.form.now) c.args.bounds c.requires.bounds in
    simp to_z-of_z (record {
      low = omega (arith, ints);
      high = omega (arith, ints);
      made = rw (c.new-rows.ensures.items, c.new-above.ensures) made;
    })

pub loop-v-preserved : goal.loop-v-preserved
loop-v-preserved g c =
    let fits_top : SFits w32 c.args.bounds.top = search rules in
    let fits_bottom : SFits w32 c.args.bounds.bottom = search rules in
    let v : ℤ = to_z w32 c.loop-v.v-bits in
    let fits_v : SFits w32 v = search rules in
    let low = c.loop-v.invariant.low in
    let below : v <ℤ c.args.bounds.bottom = search (rules, ints) in
    let fits : SFits w32 (v +ℤ pos 1) = fits_next _ _ fits_v fits_bottom below in
    let sides = sides_in c.args.bounds c.requires.bounds.in_range in
    let first = sides.top_low in
    let last = sides.bottom_high in
    let row = c.row_edges-row.ensures.pixels in
    let pushed = c.in_ok-push_turns.ensures in
    simp to_z-of_z (record {
      low = omega (arith, ints);
      high = omega (arith, ints);
      made = one_made (g.R.Rows.pixels c.args.form.now) c.loop-v.rows.items c.push_turns.new.rows.items c.loop-v.above.items c.row_edges-row.result.items v c.loop-v.invariant.made
          (omega (arith, ints), omega (arith, ints)) c.row_edges-row.ensures.row row pushed;
    })

pub push_turns-requires-clause-above : goal.push_turns-requires-clause-above
push_turns-requires-clause-above g c = c.loop-v.invariant.made.row

pub push_turns-requires-2-clause-above : goal.push_turns-requires-2-clause-above
push_turns-requires-2-clause-above g c = c.loop-v.invariant.made.row

pub push_turns-requires-2-clause-row : goal.push_turns-requires-2-clause-row
push_turns-requires-2-clause-row g c = subst IsRow (sym c.new.ensures) IsRow-nil

pub returns-clause-pixels : goal.returns-clause-pixels
returns-clause-pixels g c =
    let fits_bottom : SFits w32 c.args.bounds.bottom = search rules in
    let v : ℤ = to_z w32 c.loop-v.v-bits in
    let high = c.loop-v.invariant.high in
    let past : c.args.bounds.bottom ≤ℤ v = search (rules, ints) in
    let end : v ≡ c.args.bounds.bottom = omega (arith, ints) in
    let made = subst (AreMade (g.R.Rows.pixels c.args.form.now) c.loop-v.rows.items c.loop-v.above.items) end c.loop-v.invariant.made in
    let pushed = simp to_z-of_z at c.in_ok-push_turns-2.ensures in
    made_pixels (g.R.Rows.pixels c.args.form.now) c.args.bounds c.loop-v.rows.items c.push_turns-2.new.rows.items c.loop-v.above.items c.requires.bounds made
    (subst (λ row. IsPushed c.loop-v.rows.items c.push_turns-2.new.rows.items c.args.bounds.bottom (turns c.loop-v.above.items row)) c.new.ensures pushed)

pub returns-clause-rows : goal.returns-clause-rows
returns-clause-rows g c =
    let fits_bottom : SFits w32 c.args.bounds.bottom = search rules in
    let v : ℤ = to_z w32 c.loop-v.v-bits in
    let high = c.loop-v.invariant.high in
    let past : c.args.bounds.bottom ≤ℤ v = search (rules, ints) in
    let end : v ≡ c.args.bounds.bottom = omega (arith, ints) in
    let made = subst (AreMade (g.R.Rows.pixels c.args.form.now) c.loop-v.rows.items c.loop-v.above.items) end c.loop-v.invariant.made in
    let pushed = simp to_z-of_z at c.in_ok-push_turns-2.ensures in
    made_rows (g.R.Rows.pixels c.args.form.now) c.args.bounds c.loop-v.rows.items c.push_turns-2.new.rows.items c.loop-v.above.items c.requires.bounds made
    (subst (λ row. IsPushed c.loop-v.rows.items c.push_turns-2.new.rows.items c.args.bounds.bottom (turns c.loop-v.above.items row)) c.new.ensures pushed)
