use Rattle.std.proofs.Common.{sym, ◌∙◌}
use Rattle.std.proofs.lemmas.Int.{to_z-of_z}
use Rattle.region_inset.proofs.range.turns_to.Goals as goal

pub returns-then-not-inset_turns : goal.returns-then-not-inset_turns
returns-then-not-inset_turns c =
    let fits_dh = c.ranges.dh in
    let fits_dv = c.ranges.dv in
    let fits_v = c.ranges.v in
    let steady = simp to_z-of_z at (c.inset_turns.ensures c.if-not-inset_turns.true) in
    sym (steady c.args.h ∙ c.requires.above)
