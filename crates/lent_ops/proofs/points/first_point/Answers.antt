use Rattle.std.proofs.Common.{rules, ◌∙◌, SFits, w32}
use Rattle.std.proofs.lemmas.Int.{to_z-of_z}
use Rattle.lent_ops.proofs.PointLemmas.{first_point, no_point}
use Rattle.lent_ops.proofs.points.first_point.Goals as goal

pub returns-in_default : goal.returns-in_default
returns-in_default c = no_point c.args.bytes.now c.in_default.len_below

pub returns-in-len4-up : goal.returns-in-len4-up
returns-in-len4-up c =
    let h : SFits w32 c.word_of-h.result = search rules in
    let v : SFits w32 c.word_of-v.result = search rules in
    first_point c.args.bytes.now _ _ c.in-len4-up.len_at_least
    (to_z-of_z w32 c.word_of-h.result h ∙ c.word_of-h.ensures) (to_z-of_z w32 c.word_of-v.result v ∙ c.word_of-v.ensures)
