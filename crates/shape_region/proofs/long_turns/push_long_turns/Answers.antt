use Rattle.std.proofs.Common.{◌≡◌, [], rules}
use Rattle.std.proofs.lemmas.List.{nil_from_length}
use Rattle.region_rows.proofs.PairRows.{pushed_some}
use Rattle.shape_region.proofs.TurnLemmas.{none_pushed}
use Rattle.shape_region.proofs.long_turns.push_long_turns.Goals as goal

pub returns-then-is_empty : goal.returns-then-is_empty
returns-then-is_empty c =
    let none : c.long_turns-points.result.items ≡ [] = nil_from_length _ (search rules) in
    none_pushed c.args.rows.now.items c.args.v c.args.above.now c.args.row.now c.long_turns-points.result.items none c.long_turns-points.ensures.pixels

pub returns : goal.returns
returns c =
    let fits = c.ranges.v in
    record {
      points = c.long_turns-points.result.items;
      pixels = c.long_turns-points.ensures.pixels;
      row = c.long_turns-points.ensures.row;
      pushed = pushed_some c.args.rows.now.items c.push.new.self.items c.args.v c.long_turns-points.result.items (search rules) (search rules);
    }
