use Rattle.std.proofs.Common.{◌∙◌}
use Rattle.std.proofs.lemmas.Int.{to_z-of_z}
use Rattle.shape_strips.proofs.PenLemmas.{line_either}
use Rattle.shape_strips.proofs.line.LineStripStrip.run.Goals as goal

pub returns-else-self : goal.returns-else-self
returns-else-self c = λ h.
    let fits_v = c.ranges.v in
    let told = simp to_z-of_z at c.line_run-else-self.ensures in
    told h ∙ line_either c.args.self.now.to c.args.self.now.from c.args.self.now.pen (record { h = h; v = c.args.v })
