use Rattle.draw_port.proofs.CanvasLemmas.{placed_drawn}
use Rattle.draw_port.proofs.canvas.Canvas.draw.Goals as goal

pub returns-clause-drawn : goal.returns-clause-drawn
returns-clause-drawn g c = placed_drawn c.args.self.now c.args.rect c.placed_within.result _ _ _ c.placed_within.ensures c.draw_within.ensures.drawn
