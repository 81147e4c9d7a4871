use Rattle.std.proofs.Common.{rules, SFits, w32}
use Rattle.std.proofs.lemmas.Int.{to_z-of_z}
use Rattle.region_inset.proofs.inset.InsetPixelRows.turns.Goals as goal

pub returns : goal.returns
returns c = λ none.
    let fits_v = c.ranges.v in
    let fits_dh : SFits w32 c.args.self.now.dh = search rules in
    let fits_dv : SFits w32 c.args.self.now.dv = search rules in
    simp to_z-of_z at (c.inset_turns.ensures none)
