use Rattle.std.proofs.Common.{SFits, rules, sym, w32, ◌∙◌}
use Rattle.std.proofs.lemmas.Int.{to_z-of_z}
use Rattle.region_rows.proofs.MetRows.{still_none, still_on}
use Rattle.region_rows.proofs.meets.leaves_between.Goals as goal

pub loop-preserved : goal.loop-preserved
loop-preserved c =
    let fits_l : SFits w32 c.args.left = search rules in
    let fits_r : SFits w32 c.args.right = search rules in
    let fits_v : SFits w32 c.args.v = search rules in
    let fits_n : SFits w32 c.next_column-h.result = search rules in
    let was = simp to_z-of_z at c.loop.invariant in
    let steps = simp to_z-of_z at c.next_column-h.ensures in
    let none = simp to_z-of_z at (sym c.is_in_rows.ensures ∙ c.if-is_in_rows.false) in
    let on = was.on in
    let past = steps.on in
    simp to_z-of_z (record { on = still_on _ _ _ on past; out = still_none c.args.rows.now _ _ _ _ was.out none steps.steady })
