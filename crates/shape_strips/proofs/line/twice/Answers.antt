use Rattle.std.proofs.lemmas.Int.{to_z-of_z}
use Rattle.shape_strips.proofs.LineNumbers.{are_twice}
use Rattle.shape_strips.proofs.line.twice.Goals as goal

pub returns-clause-value : goal.returns-clause-value
returns-clause-value c =
    let fits_w = c.ranges.across in
    let fits_y = c.ranges.row in
    let fits_m = c.ranges.more in
    let are = are_twice c.args.across c.args.row c.args.more c.requires.across_in c.requires.row_in c.requires.more_in in
    let product = are.product in
    let twice = are.twice in
    let sum = are.sum in
    simp to_z-of_z

pub returns-clause-small : goal.returns-clause-small
returns-clause-small c =
    let fits_w = c.ranges.across in
    let fits_y = c.ranges.row in
    let fits_m = c.ranges.more in
    let are = are_twice c.args.across c.args.row c.args.more c.requires.across_in c.requires.row_in c.requires.more_in in
    let product = are.product in
    let twice = are.twice in
    let sum = are.sum in
    simp to_z-of_z are.small
