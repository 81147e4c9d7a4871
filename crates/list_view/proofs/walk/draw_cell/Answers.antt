use Rattle.std.proofs.Common.{◌&&◌, ap, refl, ◌∙◌}
use Rattle.tb_geom.specs.declared.rect.Rect.{Rect}
use Rattle.tb_geom.specs.Points.{plus, minus}
use Rattle.tb_geom.specs.Rects.{rect_holds}
use Rattle.draw_port.proofs.CanvasLemmas.{SameFrame-inner}
use Rattle.list_view.specs.Views.{cell_corner, cell_rect}
use Rattle.list_view.proofs.WalkLemmas.{plus_is_near, cell_placed, drawn_nowhere}
use Rattle.list_view.proofs.walk.draw_cell.Goals as goal

pub invariant_of-there : goal.invariant_of-there
invariant_of-there g c =
    record { near = rw c.corner_place.ensures (plus_is_near c.args.canvas.now.origin c.cell_corner-corner.result c.requires.origin c.cell_corner-corner.ensures.across c.cell_corner-corner.ensures.down) }

pub returns-then-is_empty-clause-drawn : goal.returns-then-is_empty-clause-drawn
returns-then-is_empty-clause-drawn g c =
    let canvas = c.args.canvas.now in
    drawn_nowhere canvas c.placed_within-clip.result (cell_rect c.args.view c.args.cell) _
    (λ p. c.placed_within-clip.ensures p ∙ ap (λ (r : Rect). rect_holds canvas.clip p && rect_holds r (minus p canvas.origin)) c.cell_rect.ensures.sides)
    (c.is_empty.ensures.pixels.0 c.if-is_empty.true)

pub returns-clause-drawn : goal.returns-clause-drawn
returns-clause-drawn g c =
    let canvas = c.args.canvas.now in
    cell_placed canvas c.placed_within-clip.result (cell_rect c.args.view c.args.cell) c.corner_place.result (cell_corner c.args.view c.args.cell)
    (g.P.CellPen.value c.args.pen.now c.args.cells.now canvas.font.now c.args.cell) canvas.map.now c.draw.new.canvas.map.now
    (λ p. c.placed_within-clip.ensures p ∙ ap (λ (r : Rect). rect_holds canvas.clip p && rect_holds r (minus p canvas.origin)) c.cell_rect.ensures.sides)
    (c.corner_place.ensures ∙ ap (plus canvas.origin) c.cell_corner-corner.ensures.place)
    c.draw.ensures.drawn

pub returns-clause-same_frame : goal.returns-clause-same_frame
returns-clause-same_frame g c =
    SameFrame-inner c.args.canvas.now _ c.draw.new.canvas _ c.cell_rect.result c.placed_within-clip.ensures refl refl c.draw.ensures.same_frame refl refl refl refl refl
