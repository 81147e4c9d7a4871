use Rattle.std.proofs.Common.{rules, SFits, w32}
use Rattle.std.proofs.lemmas.Int.{to_z-of_z}
use Rattle.tb_geom.specs.Pixels.{holds}
use Rattle.region_inset.proofs.InsetLemmas.{inset_steady}
use Rattle.region_inset.proofs.ReachLemmas.{window_around}
use Rattle.region_inset.proofs.inset_row.inset_turns.Goals as goal

pub returns-else-turns_at : goal.returns-else-turns_at
returns-else-turns_at c = λ none.
    let fits_v = c.ranges.v in
    let fits_dh = c.ranges.dh in
    let fits_dv = c.ranges.dv in
    let fits_r : SFits w32 c.reach-reach.result = search rules in
    let is = simp to_z-of_z at c.reach-reach.ensures in
    let w = window_around c.args.v c.args.dv c.reach-reach.result c.requires.row is c.requires.down in
    let fits_first = w.first_fits in
    let fits_middle = w.middle_fits in
    let last = simp to_z-of_z at (c.turns_at.ensures c.if-turns_at.false) in
    let first = simp to_z-of_z at (c.turns_at-else-turns_at.ensures none) in
    inset_steady (holds c.args.region.now) c.args.dh c.args.dv c.reach-reach.result c.args.v is last first
