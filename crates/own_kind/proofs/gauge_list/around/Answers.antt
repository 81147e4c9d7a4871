use Rattle.std.proofs.Common.{rules, pos, ◌+ℤ◌, ◌-ℤ◌, SFits, w32, ap, ◌∙◌}
use Rattle.std.proofs.lemmas.Int.{to_z-of_z}
use Rattle.looks.specs.Marks.{box}
use Rattle.own_kind.proofs.gauge_list.around.Goals as goal

pub returns : goal.returns
returns c =
    let fits_columns : SFits w32 c.bar_columns.result = search rules in
    let fits_height : SFits w32 c.args.size.height = search rules in
    let fits_right : SFits w32 (pos 5 +ℤ c.bar_columns.result) = search rules in
    let fits_bottom : SFits w32 (c.args.size.height -ℤ pos 1) = search rules in
    simp to_z-of_z at c.sides.ensures ∙ ap (λ n. box (pos 1) (pos 1) (pos 5 +ℤ n) (c.args.size.height -ℤ pos 1)) c.bar_columns.ensures.value
