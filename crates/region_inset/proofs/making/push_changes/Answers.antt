use Rattle.std.proofs.Common.{◌≡◌, [], rules}
use Rattle.std.proofs.lemmas.List.{nil_from_length}
use Rattle.region_rows.proofs.PairRows.{pushed_some}
use Rattle.pixel_rows.specs.Columns.{changes}
use Rattle.region_inset.proofs.MadeLemmas.{none_pushed}
use Rattle.region_inset.proofs.making.push_changes.Goals as goal

pub returns-then-is_empty : goal.returns-then-is_empty
returns-then-is_empty c =
    let none : c.in_ok-points.points.items ≡ [] = nil_from_length _ (search rules) in
    none_pushed c.args.rows.now.items c.args.v c.in_ok-points.points.items (changes c.args.above.now c.args.row.now) none c.in_ok-points.ensures.pixels

pub returns : goal.returns
returns c =
    let fits = c.ranges.v in
    record {
      points = c.in_ok-points.points.items;
      pixels = c.in_ok-points.ensures.pixels;
      row = c.in_ok-points.ensures.row;
      pushed = pushed_some c.args.rows.now.items c.push.new.self.items c.args.v c.in_ok-points.points.items (search rules) (search rules);
    }
