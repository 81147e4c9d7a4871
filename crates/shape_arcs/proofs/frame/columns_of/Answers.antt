use Rattle.std.proofs.Common.{◌||◌, ap, ◌∙◌, rules, SFits, w32}
use Rattle.std.proofs.lemmas.Int.{to_z-of_z}
use Rattle.tb_geom.specs.Rects.{between}
use Rattle.shape_arcs.proofs.FrameLemmas.{first_placed, second_placed, both_runs}
use Rattle.shape_arcs.proofs.frame.columns_of.Goals as goal

pub put_run-requires : goal.put_run-requires
put_run-requires c =
    let fits_third : SFits w32 c.args.row.third = search rules in
    let fits_last : SFits w32 c.args.row.last = search rules in
    simp to_z-of_z (second_placed c.args.row c.requires)

pub put_run-requires-2 : goal.put_run-requires-2
put_run-requires-2 c =
    let fits_first : SFits w32 c.args.row.first = search rules in
    let fits_second : SFits w32 c.args.row.second = search rules in
    simp to_z-of_z (first_placed c.args.row c.requires)

pub returns : goal.returns
returns c =
    let fits_first : SFits w32 c.args.row.first = search rules in
    let fits_second : SFits w32 c.args.row.second = search rules in
    let fits_third : SFits w32 c.args.row.third = search rules in
    let fits_last : SFits w32 c.args.row.last = search rules in
    let one = simp to_z-of_z at c.put_run.ensures in
    let two = simp to_z-of_z at c.put_run-2.ensures in
    λ h. two h
    ∙ ap (λ b. between c.args.row.first h c.args.row.second || b) (one h ∙ ap (λ b. between c.args.row.third h c.args.row.last || b) (c.none-columns.ensures h))
    ∙ both_runs (between c.args.row.first h c.args.row.second) (between c.args.row.third h c.args.row.last)
