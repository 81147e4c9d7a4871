use Rattle.std.proofs.Common.{◌∙◌, ap}
use Rattle.std.proofs.lemmas.Int.{to_z-of_z}
use Rattle.region_rows.specs.Edges.{differ, inside, kept, by_second}
use Rattle.region_rows.proofs.Climbs.{edges_of}
use Rattle.region_rows.proofs.Merged.{row_turned}
use Rattle.region_rows.proofs.merge.Sides.turn_both.Goals as goal

pub returns-clause-pushed : goal.returns-clause-pushed
returns-clause-pushed c =
    let fits_v = c.ranges.v in
    let first = rw (c.by_first-what.ensures, c.as_slice.ensures.value) at c.in_ok-keep_part.ensures.pixels in
    let second = rw (c.by_second.ensures, c.as_slice-2.ensures.value) at c.in_ok-keep_part-2.ensures.pixels in
    let both = rw c.as_slice-3.ensures.value at c.in_ok-turn-3.ensures.pixels in
    let pushed = simp (to_z-of_z, c.as_slice-4.ensures.value) at c.in_ok-push_row.ensures in
    record {
      points = c.turn-3.new.self.edges.items;
      pixels = λ h. both h ∙ (λ i. differ (first h i) ((second h ∙ ap (kept (by_second c.args.operator) (inside c.args.q.now h)) (c.in_ok-turn.ensures.pixels h)) i));
      row = row_turned _ _ c.turn-3.new.self.edges.items c.in_ok-keep_part.ensures.row c.in_ok-keep_part-2.ensures.row c.in_ok-turn-3.ensures.edges both;
      pushed = pushed;
    }

pub turn-requires-clause-columns : goal.turn-requires-clause-columns
turn-requires-clause-columns c = edges_of _ c.requires.p_row

pub turn-requires-2-clause-columns : goal.turn-requires-2-clause-columns
turn-requires-2-clause-columns c = edges_of _ c.requires.q_row

pub turn-requires-3-clause-edges : goal.turn-requires-3-clause-edges
turn-requires-3-clause-edges c = edges_of _ c.in_ok-keep_part.ensures.row

pub turn-requires-3-clause-columns : goal.turn-requires-3-clause-columns
turn-requires-3-clause-columns c = rw c.as_slice-3.ensures.value (edges_of _ c.in_ok-keep_part-2.ensures.row)
