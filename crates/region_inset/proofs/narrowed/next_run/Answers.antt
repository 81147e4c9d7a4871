use Rattle.std.proofs.Common.{pos, ◌+ℤ◌, sym, ◌∙◌, SFits, w32}
use Rattle.std.proofs.lemmas.Int.{to_z-of_z}
use Rattle.pixel_rows.specs.Columns.{has_column}
use Rattle.region_inset.proofs.NearLemmas.{run_more, run_over}
use Rattle.region_inset.proofs.ReachLemmas.{next_fits, other_answers, same_answers}
use Rattle.region_inset.proofs.narrowed.next_run.Goals as goal

pub returns-then-has-all : goal.returns-then-has-all
returns-then-has-all c =
    let fits_x = c.ranges.x in
    let fits_n = c.ranges.alike in
    let fits : SFits w32 (c.args.alike +ℤ pos 1) = next_fits c.args.alike fits_n c.requires in
    let has = simp to_z-of_z at c.has.ensures in
    simp to_z-of_z (λ from order run. run_more c.args.all (has_column c.args.columns.now) from c.args.x c.args.alike run (sym has ∙ same_answers c.has.result c.args.all c.if-has-all.true))

pub returns-else-has-all : goal.returns-else-has-all
returns-else-has-all c =
    let fits_x = c.ranges.x in
    let has = simp to_z-of_z at c.has.ensures in
    λ from order run. run_over c.args.all (has_column c.args.columns.now) from c.args.x c.args.alike order run (sym has ∙ other_answers c.has.result c.args.all c.if-has-all.false)
