use Rattle.std.proofs.Common.{◌∙◌, arith, SFits, w32, rules}
use Rattle.std.proofs.lemmas.Int.{ints, to_z-of_z}
use Rattle.tb_geom.specs.Rects.{between}
use Rattle.shape_strips.proofs.RunLemmas.{between-beside, between-saturated}
use Rattle.shape_strips.proofs.run.Run.inner.Goals as goal

pub returns : goal.returns
returns c = λ h.
    let sl : SFits w32 c.args.self.left = search rules in
    let sr : SFits w32 c.args.self.right = search rules in
    let fl : SFits w32 c.saturating_add.result = search rules in
    let fr : SFits w32 c.saturating_sub.result = search rules in
    let left = simp to_z-of_z at c.saturating_add.ensures in
    let right = simp to_z-of_z at c.saturating_sub.ensures in
    simp to_z-of_z ((λ i. between (left i) h (right i))
    ∙ between-saturated c.args.self.left c.args.self.right h (omega (arith, ints)) (omega (arith, ints)) (omega (arith, ints)) (omega (arith, ints))
    ∙ between-beside c.args.self.left c.args.self.right h)
