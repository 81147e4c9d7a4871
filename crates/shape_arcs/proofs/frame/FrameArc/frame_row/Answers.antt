use Rattle.std.proofs.Common.{◌∙◌}
use Rattle.std.proofs.lemmas.Int.{to_z-of_z}
use Rattle.shape_strips.specs.Frames.{frame_holds}
use Rattle.shape_arcs.proofs.frame.FrameArc.frame_row.Goals as goal

pub returns : goal.returns
returns c =
    let fits_v = c.ranges.v in
    let runs = simp to_z-of_z at c.two_runs.ensures.pixels in
    let f = c.frame.ensures in
    λ h. c.columns_of.ensures h ∙ runs h ∙ (λ i. frame_holds (f.rect i) (f.corner i) (f.pen i) (record { h = h; v = c.args.v }))
