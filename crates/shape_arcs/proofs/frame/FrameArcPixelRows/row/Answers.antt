use Rattle.std.proofs.Common.{◌&&◌, ◌∙◌}
use Rattle.std.proofs.lemmas.Int.{to_z-of_z}
use Rattle.pixel_rows.proofs.ColumnLemmas.{beside_bounds}
use Rattle.shape_arcs.specs.Wedges.{frame_arc_holds}
use Rattle.shape_arcs.proofs.FrameLemmas.{frame_bounds, shared_frame}
use Rattle.shape_arcs.proofs.frame.FrameArcPixelRows.row.Goals as goal

pub meant_columns-requires-clause-within : goal.meant_columns-requires-clause-within
meant_columns-requires-clause-within c =
    let fits_v = c.ranges.v in
    let s = c.args.self.now in
    let frame = simp to_z-of_z at c.frame_row-frame.ensures in
    let arc = simp to_z-of_z at c.arc_row-arc.ensures in
    λ h out. (λ i. frame h i && arc h i) ∙ shared_frame s.rect s.start s.angle s.pen (record { h = h; v = c.args.v })
    ∙ beside_bounds (frame_arc_holds s.rect s.start s.angle s.pen) s.rect c.args.v h (frame_bounds s.rect s.start s.angle s.pen s.in_range) out

pub returns : goal.returns
returns c =
    let fits_v = c.ranges.v in
    let s = c.args.self.now in
    let frame = simp to_z-of_z at c.frame_row-frame.ensures in
    let arc = simp to_z-of_z at c.arc_row-arc.ensures in
    λ h. c.meant_columns.ensures h ∙ (λ i. frame h i && arc h i) ∙ shared_frame s.rect s.start s.angle s.pen (record { h = h; v = c.args.v })
