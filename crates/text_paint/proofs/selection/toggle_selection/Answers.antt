use Rattle.std.proofs.Common.{◌&&◌, ap, ◌∙◌, refl}
use Rattle.tb_geom.specs.Points.{minus}
use Rattle.tb_geom.specs.Rects.{rect_holds}
use Rattle.draw_port.proofs.CanvasLemmas.{SameFrame-inner}
use Rattle.text_record.specs.declared.placing.Placing.{Placing}
use Rattle.text_paint.proofs.PaintLemmas.{toggled_over}
use Rattle.text_paint.proofs.selection.toggle_selection.Goals as goal

pub returns-clause-drawn : goal.returns-clause-drawn
returns-clause-drawn c =
    let canvas = c.args.canvas.now in
    toggled_over canvas c.placed_within-clip.result c.args.was c.args.text.now canvas.map.now c.invert_both.new.canvas.map.now
    (λ p. c.placed_within-clip.ensures p ∙ ap (λ (s : Placing). rect_holds canvas.clip p && rect_holds s.view (minus p canvas.origin)) c.placing.ensures.value)
    c.invert_both.ensures.drawn

pub returns-clause-same_frame : goal.returns-clause-same_frame
returns-clause-same_frame c =
    SameFrame-inner c.args.canvas.now _ c.invert_both.new.canvas _ c.placing.result.view c.placed_within-clip.ensures refl refl c.invert_both.ensures.same_frame refl refl refl refl refl
