use Rattle.std.proofs.Common.{◌&&◌, not, sym, ◌∙◌}
use Rattle.shape_region.proofs.RunLemmas.{frame_in, inside_in}
use Rattle.std.proofs.lemmas.Int.{to_z-of_z}
use Rattle.shape_region.proofs.frame.FrameRows.two_runs.Goals as goal

pub around-requires-clause-within : goal.around-requires-clause-within
around-requires-clause-within c =
    let fits_v = c.ranges.v in
    let outer = simp to_z-of_z at c.placed_run-outer.ensures.pixels in
    let inner = simp to_z-of_z at c.placed_run.ensures.pixels in
    λ h e. outer h ∙ inside_in c.args.self.now.rect c.args.self.now.corner c.args.self.now.pen (record { h = h; v = c.args.v }) (sym (inner h) ∙ e)

pub returns-clause-pixels : goal.returns-clause-pixels
returns-clause-pixels c =
    let fits_v = c.ranges.v in
    let outer = simp to_z-of_z at c.placed_run-outer.ensures.pixels in
    let inner = simp to_z-of_z at c.placed_run.ensures.pixels in
    λ h. c.around.ensures.pixels h
    ∙ (λ i. outer h i && not (inner h i))
    ∙ frame_in c.args.self.now.rect c.args.self.now.corner c.args.self.now.pen (record { h = h; v = c.args.v }) (sym c.has_size.ensures ∙ c.if-not-has_size.false)
