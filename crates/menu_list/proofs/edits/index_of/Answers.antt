use Rattle.std.proofs.Common.{refl, sym, rules, SFits, w32}
use Rattle.std.proofs.lemmas.Int.{to_z-of_z}
use Rattle.menu_list.proofs.edits.index_of.Goals as goal

pub returns-in-Some : goal.returns-in-Some
returns-in-Some g c =
    let fits : SFits w32 c.args.menu = search rules in
    let first = simp to_z-of_z at c.in-Some.ensures.first in
    (sym first, c.in-Some.ensures.within)

pub returns-in-None : goal.returns-in-None
returns-in-None g c =
    let fits : SFits w32 c.args.menu = search rules in
    let first = simp to_z-of_z at c.in-None.ensures.first in
    (refl, sym first)
