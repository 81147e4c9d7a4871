use Rattle.std.proofs.Common.{◌∙◌, ◌||◌, sym}
use Rattle.tb_geom.specs.Rects.{rect_holds}
use Rattle.draw_port.proofs.CanvasLemmas.{SameFrame-then}
use Rattle.looks.proofs.CrossLemmas.{black_more, row_is}
use Rattle.looks.proofs.cross.cross_row.Goals as goal

pub returns-clause-drawn : goal.returns-clause-drawn
returns-clause-drawn c =
    let rect = c.args.rect in
    black_more c.args.canvas.now c.fill.new.self (rect_holds c.falling.result) (rect_holds c.rising.result) _ _ _ _ c.fill.ensures.same_frame
    (λ q. row_is rect c.args.row q ∙ (λ i. sym (c.rising.ensures q) i || sym (c.falling.ensures q) i))
    c.fill.ensures.drawn c.fill-2.ensures.drawn

pub returns-clause-same_frame : goal.returns-clause-same_frame
returns-clause-same_frame c = SameFrame-then _ _ _ c.fill.ensures.same_frame c.fill-2.ensures.same_frame
