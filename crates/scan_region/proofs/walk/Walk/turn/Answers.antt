use Rattle.std.proofs.Common.{SFits, w32, rules}
use Rattle.std.proofs.lemmas.Int.{to_z-of_z}
use Rattle.scan_region.proofs.WalkSteps.{walk_turn}
use Rattle.scan_region.proofs.PartSteps.{Turns}
use Rattle.scan_region.proofs.walk.Walk.turn.Goals as goal

pub returns : goal.returns
returns c =
    let w = c.args.self.now in
    let fits_v : SFits w32 c.args.self.now.v = search rules in
    let fits_at : SFits w32 c.args.self.now.at = search rules in
    let fits_right : SFits w32 c.args.self.now.right = search rules in
    let fits_4 : SFits w32 c.turn-to.result = search rules in
    let fits_3 : SFits w32 c.turn-to-2.result = search rules in
    let fits_2 : SFits w32 c.turn-to-3.result = search rules in
    let fits_1 : SFits w32 c.turn.result = search rules in
    let e4 = simp to_z-of_z at c.turn-to.ensures in
    let e3 = simp to_z-of_z at c.turn-to-2.ensures in
    let e2 = simp to_z-of_z at c.turn-to-3.ensures in
    let e1 = simp to_z-of_z at c.turn.ensures in
    let h4 : Turns w.words w.hole w.v w.at w.right c.turn-to.result = record { on = e4.on; up = e4.up; steady = e4.steady; turned = e4.turned } in
    let h3 : Turns w.words w.third w.v w.at c.turn-to.result c.turn-to-2.result = record { on = e3.on; up = e3.up; steady = e3.steady; turned = e3.turned } in
    let h2 : Turns w.words w.second w.v w.at c.turn-to-2.result c.turn-to-3.result = record { on = e2.on; up = e2.up; steady = e2.steady; turned = e2.turned } in
    let h1 : Turns w.words w.first w.v w.at c.turn-to-3.result c.turn.result = record { on = e1.on; up = e1.up; steady = e1.steady; turned = e1.turned } in
    simp to_z-of_z (walk_turn w _ _ _ c.turn.result h4 h3 h2 h1)
