use Rattle.std.proofs.Common.{◌∙◌, ap, List, ℕ}
use Rattle.bit_map.specs.Images.{Image}
use Rattle.draw_port.specs.Ops.{clip_holds, image_of}
use Rattle.draw_port.proofs.CanvasLemmas.{rows_drawn}
use Rattle.draw_port.proofs.PlacedLemmas.{image-around}
use Rattle.draw_port.proofs.canvas.Canvas.draw_rows.Goals as goal

pub returns-clause-drawn : goal.returns-clause-drawn
returns-clause-drawn c =
    let canvas = c.args.self.now in
    let rows = c.args.rows.now in
    let limits = c.draw_clipped.ensures.limits in
    let image : List ℕ → Image = λ bytes. record { width = rows.width; height = rows.height; rows = bytes } in
    let made = c.new-image.ensures ∙ ap image c.as_slice.ensures in
    rows_drawn canvas (clip_holds c.args.clip.now) c.rect_from-rect.result c.new-image.result (image_of rows) rows.place rows.mode _ _ limits.0 limits.1 canvas.near made
    (λ p close held. c.rect_from-rect.ensures p close ∙ image-around (image_of rows) rows.place p held) c.draw_clipped.ensures.drawn
