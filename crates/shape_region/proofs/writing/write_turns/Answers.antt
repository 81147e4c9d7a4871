use Rattle.std.proofs.Common.{◌≡◌, ◌<◌, [], ◌∷◌, ◌++◌, length, rules, refl}
use Rattle.std.proofs.lemmas.Int.{to_z-of_z}
use Rattle.std.proofs.lemmas.List.{nil_from_length}
use Rattle.region_rows.proofs.PairRows.{pushed_some}
use Rattle.shape_region.proofs.TurnLemmas.{none_pushed, row_in_range}
use Rattle.shape_region.proofs.writing.write_turns.Goals as goal

pub returns-then-is_empty : goal.returns-then-is_empty
returns-then-is_empty c =
    let none : c.turn_points-points.result.items ≡ [] = nil_from_length _ (search rules) in
    λ rows s. (rows, none_pushed rows c.args.v c.args.above.now.items c.args.row.now.items c.turn_points-points.result.items none c.turn_points-points.ensures.pixels, s)

pub write_row-requires : goal.write_row-requires
write_row-requires c =
    let fits_v = c.ranges.v in
    simp (to_z-of_z, c.as_slice.ensures.value) (row_in_range c.args.v c.turn_points-points.result.items c.requires.top c.turn_points-points.ensures.row)

pub returns : goal.returns
returns c =
    let fits_v = c.ranges.v in
    let some : 0 < length c.turn_points-points.result.items = search rules in
    let written = simp (to_z-of_z, c.as_slice.ensures.value) at c.write_row.ensures in
    λ rows s. (
      rows ++ (c.args.v, c.turn_points-points.result.items) ∷ [],
      record {
        points = c.turn_points-points.result.items;
        pixels = c.turn_points-points.ensures.pixels;
        row = c.turn_points-points.ensures.row;
        pushed = pushed_some rows (rows ++ (c.args.v, c.turn_points-points.result.items) ∷ []) c.args.v c.turn_points-points.result.items some refl;
      },
      written rows s,
    )
