use Rattle.std.proofs.Common.{◌≡◌, ◌∷◌, ◌++◌, [], rules}
use Rattle.region_rows.proofs.PairRows.{row_of_two, inside_two}
use Rattle.region_rows.proofs.pair.push_run.Goals as goal

pub returns : goal.returns
returns c =
    let fits_v = c.ranges.v in
    let r = c.args.run in
    let p = c.requires in
    let pushed : c.push.new.self.items ≡ c.args.rows.now.items ++ (c.args.v, r.left ∷ r.right ∷ []) ∷ [] = search rules in
    record {
      points = r.left ∷ r.right ∷ [];
      pixels = λ h. inside_two r.left r.right h p.order;
      row = row_of_two r.left r.right p.left_in p.right_in p.order;
      pushed = pushed;
    }
