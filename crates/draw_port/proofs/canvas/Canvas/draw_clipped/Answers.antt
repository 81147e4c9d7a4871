use Rattle.std.proofs.Common.{◌&&◌, sym, ◌∙◌}
use Rattle.tb_geom.specs.Rects.{rect_holds}
use Rattle.bit_blit.proofs.DrawsLemmas.{Draws-where}
use Rattle.draw_port.specs.Canvases.{canvas_holds, canvas_point}
use Rattle.draw_port.specs.Ops.{clip_holds}
use Rattle.draw_port.proofs.ClippedLemmas.{one_region}
use Rattle.draw_port.proofs.canvas.Canvas.draw_clipped.Goals as goal

pub returns-in-None-clause-drawn : goal.returns-in-None-clause-drawn
returns-in-None-clause-drawn g c =
    let canvas = c.args.self.now in
    Draws-where _ _ _ _ _
    (λ p on i. canvas_holds canvas p && (clip_holds (sym c.in-None.is i) (canvas_point canvas p) && rect_holds c.args.rect (canvas_point canvas p)))
    c.draw.ensures.drawn

pub returns-in-Some-clause-drawn : goal.returns-in-Some-clause-drawn
returns-in-Some-clause-drawn g c =
    let canvas = c.args.self.now in
    Draws-where _ _ _ _ _
    (λ p on. (λ i. canvas_holds canvas p && (one_region _ _ c.cut_inside.ensures (canvas_point canvas p) i && rect_holds c.args.rect (canvas_point canvas p)))
    ∙ (λ i. canvas_holds canvas p && (clip_holds (sym c.in-Some.is i) (canvas_point canvas p) && rect_holds c.args.rect (canvas_point canvas p))))
    c.draw_in.ensures.drawn
