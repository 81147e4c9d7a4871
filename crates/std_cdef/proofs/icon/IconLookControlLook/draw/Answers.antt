use Rattle.std.proofs.Common.{◌∙◌}
use Rattle.draw_port.proofs.CanvasLemmas.{SameFrame-then}
use Rattle.std_cdef.proofs.IconLemmas.{icon-drawn, sides-back}
use Rattle.std_cdef.proofs.icon.IconLookControlLook.draw.Goals as goal

pub returns-clause-same_frame : goal.returns-clause-same_frame
returns-clause-same_frame c = SameFrame-then _ _ _ c.fill_all.ensures.same_frame c.bits.ensures.same_frame

pub returns-clause-drawn : goal.returns-clause-drawn
returns-clause-drawn c =
    let back = sides-back c.args.kept.now.size c.requires in
    icon-drawn c.args.canvas.now c.fill_all.new.self c.args.kept.now _ _ _ _ c.fill_all.ensures.same_frame
    (λ i. record { width = (c.columns-width.ensures ∙ back.0) i; height = (c.columns-height.ensures ∙ back.1) i; rows = c.as_slice.ensures.same i })
    c.fill_all.ensures.drawn c.bits.ensures.drawn
