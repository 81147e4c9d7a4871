use Rattle.std.proofs.Common.{◌≡◌, [], ◌∙◌, ap, rules}
use Rattle.std.proofs.lemmas.Int.{to_z-of_z}
use Rattle.std.proofs.lemmas.List.{nil_from_length}
use Rattle.region_rows.specs.Edges.{inside, kept, by_second}
use Rattle.region_rows.proofs.Climbs.{edges_of}
use Rattle.region_rows.proofs.Edges.{not_turned, first_alone, second_alone}
use Rattle.region_rows.proofs.merge.Sides.turn.Goals as goal

pub turn-requires-clause-columns : goal.turn-requires-clause-columns
turn-requires-clause-columns c = edges_of _ c.requires.p_row

pub turn-requires-then-is_empty-2-clause-columns : goal.turn-requires-then-is_empty-2-clause-columns
turn-requires-then-is_empty-2-clause-columns c = edges_of _ c.requires.q_row

pub returns-then-is_empty : goal.returns-then-is_empty
returns-then-is_empty c =
    let fits_v = c.ranges.v in
    let nil : c.args.q.now ≡ [] = nil_from_length _ (search rules) in
    let t = simp (to_z-of_z, c.by_first-what.ensures, c.as_slice-edges.ensures.value) at c.in_ok-push_part.ensures in
    record {
      turned = record { a_left = c.in_ok-turn.ensures.pixels; b_left = λ h. not_turned _ _ h nil; a_edges = c.in_ok-turn.ensures.edges; b_edges = c.requires.b_edges };
      pushed = record { points = t.points; pixels = λ h. t.pixels h ∙ first_alone _ _ _ _ h nil; row = t.row; pushed = t.pushed };
    }

pub returns-then-is_empty-2 : goal.returns-then-is_empty-2
returns-then-is_empty-2 c =
    let fits_v = c.ranges.v in
    let nil : c.args.p.now ≡ [] = nil_from_length _ (search rules) in
    let t = simp (to_z-of_z, c.by_second-what.ensures, c.as_slice-edges-then-is_empty-2.ensures.value) at c.in_ok-push_part-2.ensures in
    record {
      turned = record { a_left = λ h. not_turned _ _ h nil; b_left = c.in_ok-turn-2.ensures.pixels; a_edges = c.requires.a_edges; b_edges = c.in_ok-turn-2.ensures.edges };
      pushed = record { points = t.points; pixels = λ h. t.pixels h ∙ ap (kept (by_second c.args.operator) (inside c.args.q.now h)) (not_turned _ _ h nil) ∙ second_alone _ _ _ _ h nil; row = t.row; pushed = t.pushed };
    }
