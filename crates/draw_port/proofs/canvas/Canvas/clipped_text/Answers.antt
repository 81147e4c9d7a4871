use Rattle.std.proofs.Common.{refl}
use Rattle.draw_port.proofs.TextLemmas.{text_drawn}
use Rattle.draw_port.proofs.canvas.Canvas.clipped_text.Goals as goal

pub returns-clause-drawn : goal.returns-clause-drawn
returns-clause-drawn c =
    let canvas = c.args.self.now in
    let limits = c.reach-reach.ensures.limits in
    text_drawn canvas c.args.clip.now c.args.text.now c.args.pen c.args.mode c.around-around.result c.reach-reach.result c.sect.result canvas.map.now c.put_rows.new.self.map.now refl limits.0 limits.1 canvas.near
    c.around-around.ensures c.reach-reach.ensures.around c.sect.ensures.pixels c.put_rows.ensures.drawn
