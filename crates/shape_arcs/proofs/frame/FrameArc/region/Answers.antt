use Rattle.std.proofs.Common.{◌&&◌, ◌∙◌}
use Rattle.std.proofs.lemmas.Result.{IfOk-weaker}
use Rattle.shape_strips.specs.Frames.{frame_holds}
use Rattle.shape_arcs.specs.Wedges.{arc_holds}
use Rattle.shape_arcs.proofs.FrameLemmas.{shared_frame}
use Rattle.shape_arcs.proofs.frame.FrameArc.region.Goals as goal

pub returns : goal.returns
returns c =
    let s = c.args.self.now in
    let frame = c.in_ok-frame.ensures in
    let arc = c.in_ok-arc.ensures in
    let f = c.frame.ensures in
    let a = c.arc.ensures in
    IfOk-weaker c.sect.result _ _
    (λ region same p. same p
    ∙ (λ i. (frame p ∙ (λ j. frame_holds (f.rect j) (f.corner j) (f.pen j) p)) i && (arc p ∙ (λ j. arc_holds (a.rect j) (a.start j) (a.angle j) p)) i)
    ∙ shared_frame s.rect s.start s.angle s.pen p)
    c.sect.ensures
