use Rattle.std.proofs.Common.{SFits, w32, rules}
use Rattle.std.proofs.lemmas.Int.{to_z-of_z}
use Rattle.window_outline.proofs.WayNumbers.{down}
use Rattle.window_outline.proofs.reading.moved_place.Goals as goal

pub moved_number-requires-2-clause-number : goal.moved_number-requires-2-clause-number
moved_number-requires-2-clause-number c =
    let fits : SFits w32 c.args.place.v = search rules in simp to_z-of_z (down c.args.place c.requires.place)

pub moved_number-requires-2-clause-from : goal.moved_number-requires-2-clause-from
moved_number-requires-2-clause-from c =
    let fits : SFits w32 c.args.from.v = search rules in simp to_z-of_z (down c.args.from c.requires.from)

pub moved_number-requires-2-clause-to : goal.moved_number-requires-2-clause-to
moved_number-requires-2-clause-to c =
    let fits : SFits w32 c.args.to.v = search rules in simp to_z-of_z (down c.args.to c.requires.to)
