use Rattle.std.proofs.Common.{◌≡◌, [], rules}
use Rattle.std.proofs.lemmas.List.{nil_from_length}
use Rattle.region_rows.proofs.PairRows.{pushed_some}
use Rattle.shape_region.proofs.TurnLemmas.{none_pushed}
use Rattle.shape_region.proofs.making.push_turns.Goals as goal

pub returns-then-is_empty : goal.returns-then-is_empty
returns-then-is_empty c =
    let none : c.turn_points-points.result.items ≡ [] = nil_from_length _ (search rules) in
    none_pushed c.args.rows.now.items c.args.v c.args.above.now.items c.args.row.now.items c.turn_points-points.result.items none c.turn_points-points.ensures.pixels

pub returns : goal.returns
returns c =
    let fits = c.ranges.v in
    record {
      points = c.turn_points-points.result.items;
      pixels = c.turn_points-points.ensures.pixels;
      row = c.turn_points-points.ensures.row;
      pushed = pushed_some c.args.rows.now.items c.push.new.self.items c.args.v c.turn_points-points.result.items (search rules) (search rules);
    }
