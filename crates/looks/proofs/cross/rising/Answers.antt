use Rattle.std.proofs.Common.{SFits, w64, ◌∙◌, rules}
use Rattle.std.proofs.lemmas.Int.{to_z-of_z}
use Rattle.looks.proofs.CrossLemmas.{rises_is}
use Rattle.looks.proofs.cross.rising.Goals as goal

pub returns : goal.returns
returns c = λ p.
    let column : SFits w64 c.last_less.result = search rules in
    let row : SFits w64 c.further.result = search rules in
    simp to_z-of_z at (c.pixel.ensures p) ∙ rises_is c.args.rect c.args.row c.last_less.result c.further.result (search rules) (search rules) p
