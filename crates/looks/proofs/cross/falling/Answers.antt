use Rattle.std.proofs.Common.{SFits, w64, ◌∙◌, rules}
use Rattle.std.proofs.lemmas.Int.{to_z-of_z}
use Rattle.looks.proofs.CrossLemmas.{falls_is}
use Rattle.looks.proofs.cross.falling.Goals as goal

pub returns : goal.returns
returns c = λ p.
    let column : SFits w64 c.further.result = search rules in
    let row : SFits w64 c.further-2.result = search rules in
    simp to_z-of_z at (c.pixel.ensures p) ∙ falls_is c.args.rect c.args.row c.further.result c.further-2.result (search rules) (search rules) p
