use Rattle.std.proofs.Common.{◌∙◌, true}
use Rattle.bit_map.specs.Images.{Image}
use Rattle.draw_port.proofs.CanvasLemmas.{rows_drawn}
use Rattle.draw_port.proofs.PlacedLemmas.{image-around}
use Rattle.draw_port.proofs.canvas.Canvas.bits.Goals as goal

pub returns-clause-drawn : goal.returns-clause-drawn
returns-clause-drawn c =
    let canvas = c.args.self.now in
    let limits = c.draw.ensures.limits in
    let image : Image = record { width = c.args.width; height = c.args.height; rows = c.args.rows.now } in
    rows_drawn canvas (λ q. true) c.rect_from.result c.new-image.result image c.args.place c.args.mode _ _ limits.0 limits.1 canvas.near c.new-image.ensures
    (λ p close held. c.rect_from.ensures p close ∙ image-around image c.args.place p held) c.draw.ensures.drawn
