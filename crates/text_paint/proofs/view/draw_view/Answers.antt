use Rattle.std.proofs.Common.{◌&&◌, ap, ◌∙◌, refl}
use Rattle.tb_geom.specs.Points.{minus}
use Rattle.tb_geom.specs.Rects.{rect_holds}
use Rattle.draw_port.proofs.CanvasLemmas.{SameFrame-inner}
use Rattle.draw_port.specs.Canvases.{canvas_point}
use Rattle.text_record.specs.declared.placing.Placing.{Placing}
use Rattle.text_paint.specs.Shown.{with_lines, with_selection}
use Rattle.text_paint.proofs.OverLemmas.{placed_over}
use Rattle.text_paint.proofs.view.draw_view.Goals as goal

pub returns-clause-drawn : goal.returns-clause-drawn
returns-clause-drawn c =
    let canvas = c.args.canvas.now in
    let r = c.args.text.now in
    placed_over canvas c.placed_within-clip.result r.view (λ p d. with_selection r (canvas_point canvas p) (with_lines canvas.font.now r (canvas_point canvas p) d)) canvas.map.now c.draw_text.new.canvas.map.now
    (λ p. c.placed_within-clip.ensures p ∙ ap (λ (s : Placing). rect_holds canvas.clip p && rect_holds s.view (minus p canvas.origin)) c.placing.ensures.value)
    c.draw_text.ensures.drawn

pub returns-clause-same_frame : goal.returns-clause-same_frame
returns-clause-same_frame c =
    SameFrame-inner c.args.canvas.now _ c.draw_text.new.canvas _ c.placing.result.view c.placed_within-clip.ensures refl refl c.draw_text.ensures.same_frame refl refl refl refl refl
