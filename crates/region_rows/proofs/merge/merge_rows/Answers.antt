use Rattle.std.proofs.Common.{rules, arith, ◌<ℤ◌, SFits, w32, inl, inr}
use Rattle.std.proofs.lemmas.Int.{ints, to_z-of_z}
use Rattle.region_rows.proofs.Merged.{Reads, Merged-none, Merged-with_row, merged_pixels, merged_rows}
use Rattle.region_rows.proofs.merge.merge_rows.Goals as goal

pub loop-row-init : goal.loop-row-init
loop-row-init c = rw (c.in_ok-rows.ensures.items, c.new-sides.ensures.a, c.new-sides.ensures.b) (Merged-none _ _ _)

pub loop-row-preserved : goal.loop-row-preserved
loop-row-preserved c =
    let s = c.loop-row.invariant in
    let fits : SFits w32 c.in-Some.row.v = search rules in
    let ra = c.in-Some.ensures.in_a in
    let rb = c.in-Some.ensures.in_b in
    let next : s.upto <ℤ c.in-Some.row.v = elim c.in-Some.ensures.here [ inl w ↦ omega (arith, ints, s.a_at.ahead w.0) | inr w ↦ omega (arith, ints, s.b_at.ahead w.0) ] in
    let made = simp to_z-of_z at c.in_ok-turn.ensures in
    let pushed = made.pushed in
    let reads : Reads c.args.a.now c.args.b.now c.args.operator c.loop-row.i c.loop-row.j c.in-Some.row.i c.in-Some.row.j c.in-Some.row.v c.in-Some.row.in_a.now c.in-Some.row.in_b.now c.loop-row.sides.of_a.edges.items c.loop-row.sides.of_b.edges.items c.turn.new.self.of_a.edges.items c.turn.new.self.of_b.edges.items pushed.points =
    record {
      a_at = ra.at s.upto s.a_at next;
      b_at = rb.at s.upto s.b_at next;
      a_pixels = ra.pixels;
      b_pixels = rb.pixels;
      a_left = made.turned.a_left;
      b_left = made.turned.b_left;
      a_row = made.turned.a_edges;
      b_row = made.turned.b_edges;
      points = pushed.pixels;
      row = pushed.row;
    } in
    rw pushed.pushed (Merged-with_row _ _ _ _ _ _ _ _ _ _ _ _ _ _ _ _ s next reads c.in-Some.ensures.in_range)

pub returns-clause-pixels : goal.returns-clause-pixels
returns-clause-pixels c = merged_pixels _ _ _ _ _ _ _ _ c.loop-row.invariant (search rules) (search rules)

pub returns-clause-rows : goal.returns-clause-rows
returns-clause-rows c = merged_rows _ _ _ _ _ _ _ _ c.requires.a_rows c.requires.b_rows c.loop-row.invariant (search rules) (search rules)
