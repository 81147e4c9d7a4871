use Rattle.std.proofs.Common.{◌∙◌, SFits, w32, rules}
use Rattle.std.proofs.lemmas.Int.{to_z-of_z}
use Rattle.tb_geom.specs.Rects.{between}
use Rattle.shape_strips.proofs.RunLemmas.{between-both}
use Rattle.shape_strips.proofs.run.Run.sect.Goals as goal

pub returns : goal.returns
returns c = λ h.
    let sl : SFits w32 c.args.self.left = search rules in
    let sr : SFits w32 c.args.self.right = search rules in
    let ol : SFits w32 c.args.other.left = search rules in
    let or : SFits w32 c.args.other.right = search rules in
    let fl : SFits w32 c.max.result = search rules in
    let fr : SFits w32 c.min.result = search rules in
    let left = simp to_z-of_z at c.max.ensures.value in
    let right = simp to_z-of_z at c.min.ensures.value in
    simp to_z-of_z ((λ i. between (left i) h (right i)) ∙ between-both c.args.self.left c.args.other.left c.args.self.right c.args.other.right h)
