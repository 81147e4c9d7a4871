use Rattle.std.proofs.Common.{SFits, w32, sym, ◌∙◌, rules}
use Rattle.std.proofs.lemmas.Int.{to_z-of_z}
use Rattle.lent_ops.proofs.asking.may_inset.Goals as goal

pub returns-then-is_near : goal.returns-then-is_near
returns-then-is_near c =
    let across : SFits w32 c.args.distance.dh = search rules in
    let down : SFits w32 c.args.distance.dv = search rules in
    let can = simp to_z-of_z at (rw c.read.ensures at c.can_inset.ensures) in
    (λ yes. (sym c.is_near.ensures ∙ c.if-is_near.true, can.0 yes), λ inset. can.1 inset.1)
