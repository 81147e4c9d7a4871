use Rattle.std.proofs.Common.{◌&&◌, not, ap, ◌∙◌, refl}
use Rattle.tb_geom.specs.declared.rect.Rect.{Rect}
use Rattle.tb_geom.specs.Points.{minus}
use Rattle.tb_geom.specs.Rects.{rect_holds}
use Rattle.draw_port.proofs.CanvasLemmas.{SameFrame-inner}
use Rattle.draw_port.specs.Canvases.{canvas_point}
use Rattle.text_record.specs.Placings.{box_of}
use Rattle.text_paint.specs.Shown.{inset}
use Rattle.text_paint.proofs.OverLemmas.{placed_over}
use Rattle.text_paint.proofs.frame.draw_box.Goals as goal

pub returns-clause-drawn : goal.returns-clause-drawn
returns-clause-drawn c =
    let canvas = c.args.canvas.now in
    let r = c.args.text.now in
    placed_over canvas c.placed_within-clip.result (box_of r.framed r.view) (λ p _. not (rect_holds (inset (box_of r.framed r.view)) (canvas_point canvas p))) canvas.map.now c.fill_around.new.canvas.map.now
    (λ p. c.placed_within-clip.ensures p ∙ ap (λ (s : Rect). rect_holds canvas.clip p && rect_holds s (minus p canvas.origin)) c.bounds.ensures.sides)
    c.fill_around.ensures.drawn

pub returns-clause-same_frame : goal.returns-clause-same_frame
returns-clause-same_frame c =
    SameFrame-inner c.args.canvas.now _ c.fill_around.new.canvas _ c.bounds.result c.placed_within-clip.ensures refl refl c.fill_around.ensures.same_frame refl refl refl refl refl
