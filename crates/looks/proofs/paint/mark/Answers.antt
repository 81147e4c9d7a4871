use Rattle.std.proofs.Common.{◌&&◌, ◌∙◌, ap}
use Rattle.tb_geom.specs.Rects.{rect_holds}
use Rattle.bit_blit.proofs.DrawsLemmas.{Draws-where}
use Rattle.draw_port.specs.Canvases.{canvas_holds, canvas_point}
use Rattle.looks.specs.declared.step.Mark.TheVariants.{Behind}
use Rattle.looks.specs.Letters.{lettering, plate_rect}
use Rattle.looks.proofs.PaintLemmas.{drawn-mark, drawn-white}
use Rattle.looks.proofs.paint.mark.Goals as goal

pub returns-in-Behind-clause-drawn : goal.returns-in-Behind-clause-drawn
returns-in-Behind-clause-drawn c =
    let k = c.args.canvas.now in
    let plate = c.in-Behind.plate in
    let same = c.plate_rect-rect.ensures ∙ ap (λ w. plate_rect w plate) c.width.ensures.value in
    drawn-mark (lettering k.font.now c.args.text.now) k c.args.mark (Behind plate) _ _ c.in-Behind.is
    (Draws-where _ _ _ _ _ (λ p on. ap (λ r. canvas_holds k p && rect_holds r (canvas_point k p)) same)
    (drawn-white k (λ p. canvas_holds k p && rect_holds c.plate_rect-rect.result (canvas_point k p)) _ _ c.fill-in-Behind.ensures.drawn))
