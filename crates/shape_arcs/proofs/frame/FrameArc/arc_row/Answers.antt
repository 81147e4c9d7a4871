use Rattle.std.proofs.Common.{◌∙◌}
use Rattle.std.proofs.lemmas.Int.{to_z-of_z}
use Rattle.shape_arcs.specs.Wedges.{arc_holds}
use Rattle.shape_arcs.proofs.frame.FrameArc.arc_row.Goals as goal

pub returns : goal.returns
returns c =
    let fits_v = c.ranges.v in
    let runs = simp to_z-of_z at c.two_runs.ensures.pixels in
    let a = c.arc.ensures in
    λ h. c.columns_of.ensures h ∙ runs h ∙ (λ i. arc_holds (a.rect i) (a.start i) (a.angle i) (record { h = h; v = c.args.v }))
