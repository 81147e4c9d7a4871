use Rattle.std.proofs.Common.{◌-ℤ◌, ◌*ℤ◌, SFits, w32, rules}
use Rattle.std.proofs.lemmas.Int.{to_z-of_z}
use Rattle.shape_strips.proofs.ColumnLemmas.{run_between}
use Rattle.shape_strips.proofs.columns.Slope.columns.Goals as goal

pub returns-clause-run : goal.returns-clause-run
returns-clause-run c = λ h.
    let fits_f : SFits w32 c.first_column.result = search rules in
    let fits_g : SFits w32 c.first_column-2.result = search rules in
    let fits_l = c.ranges.left in
    let fits_least = c.ranges.least in
    let fits_end = c.ranges.end in
    let fits_r = c.ranges.right in
    let first = simp to_z-of_z at c.first_column.ensures.edge in
    let last = simp to_z-of_z at c.first_column-2.ensures.edge in
    let low = simp to_z-of_z at c.first_column.ensures.low in
    let high = simp to_z-of_z at c.first_column-2.ensures.high in
    simp to_z-of_z (run_between c.args.left c.args.right c.first_column.result c.first_column-2.result h c.args.least c.args.end (c.args.self.step *ℤ (h -ℤ c.args.self.origin)) (first h) (last h) low high)
