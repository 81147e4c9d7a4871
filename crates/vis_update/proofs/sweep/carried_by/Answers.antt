use Rattle.std.proofs.Common.{SFits, w32, rules}
use Rattle.std.proofs.lemmas.Int.{to_z-of_z}
use Rattle.std.proofs.lemmas.Result.{IfOk-weaker}
use Rattle.vis_update.proofs.PlaceLemmas.{none_arrive, carried}
use Rattle.vis_update.proofs.sweep.carried_by.Goals as goal

pub returns-in-Err : goal.returns-in-Err
returns-in-Err c =
    let fits_h : SFits w32 c.args.by.h = search rules in
    let fits_v : SFits w32 c.args.by.v = search rules in
    let refused = simp to_z-of_z at c.in-Err.ensures.refused in
    none_arrive c.args.within.now c.args.region.now c.in_ok-moved.moved c.empty.result c.args.by c.requires.within c.requires.near c.in_ok-moved.ensures refused.1 c.empty.ensures

pub returns-in-Ok : goal.returns-in-Ok
returns-in-Ok c =
    let fits_h : SFits w32 c.args.by.h = search rules in
    let fits_v : SFits w32 c.args.by.v = search rules in
    let arrived = simp to_z-of_z at c.in-Ok.ensures.moved in
    IfOk-weaker c.cut_to.result _ _ (λ cut kept p. carried c.args.within.now c.args.region.now c.in_ok-moved.moved _ cut c.args.by p c.in_ok-moved.ensures (arrived p) (kept p)) c.cut_to.ensures
