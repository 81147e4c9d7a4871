use Rattle.std.proofs.Common.{◌||◌}
use Rattle.tb_geom.specs.Rects.{rect_holds}
use Rattle.draw_port.specs.Ops.{clip_holds, shade_value, frame_holds}
use Rattle.draw_port.proofs.CanvasLemmas.{SameFrame-then}
use Rattle.draw_port.proofs.FrameLemmas.{more_part, same_clipped}
use Rattle.draw_port.proofs.canvas.Canvas.draw_frame.Goals as goal

pub returns-clause-drawn : goal.returns-clause-drawn
returns-clause-drawn c =
    let canvas = c.args.self.now in
    let clip = clip_holds c.args.clip.now in
    let value = shade_value c.args.shade.now in
    let sides = c.sides_of-sides.result in
    let are = c.sides_of-sides.ensures in
    let one = c.draw_clipped.ensures.same_frame in
    let two = SameFrame-then _ _ _ one c.draw_clipped-2.ensures.same_frame in
    let three = SameFrame-then _ _ _ two c.draw_clipped-3.ensures.same_frame in
    let rows = more_part canvas c.draw_clipped.new.self clip value (λ q. rect_holds sides.top q) sides.bottom _ _ _ one are.bottom_apart c.draw_clipped.ensures.drawn c.draw_clipped-2.ensures.drawn in
    let left = more_part canvas c.draw_clipped-2.new.self clip value (λ q. rect_holds sides.bottom q || rect_holds sides.top q) sides.left _ _ _ two are.left_apart rows c.draw_clipped-3.ensures.drawn in
    let right = more_part canvas c.draw_clipped-3.new.self clip value (λ q. rect_holds sides.left q || (rect_holds sides.bottom q || rect_holds sides.top q)) sides.right _ _ _ three are.right_apart left c.draw_clipped-4.ensures.drawn in
    same_clipped canvas clip value (λ q. rect_holds sides.right q || (rect_holds sides.left q || (rect_holds sides.bottom q || rect_holds sides.top q))) (frame_holds c.args.rect) _ _ are.all right

pub returns-clause-same_frame : goal.returns-clause-same_frame
returns-clause-same_frame c =
    let two = SameFrame-then _ _ _ c.draw_clipped.ensures.same_frame c.draw_clipped-2.ensures.same_frame in
    let three = SameFrame-then _ _ _ two c.draw_clipped-3.ensures.same_frame in
    SameFrame-then _ _ _ three c.draw_clipped-4.ensures.same_frame
