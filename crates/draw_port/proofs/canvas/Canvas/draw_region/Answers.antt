use Rattle.draw_port.proofs.ClippedLemmas.{region_drawn}
use Rattle.draw_port.proofs.canvas.Canvas.draw_region.Goals as goal

pub returns-clause-drawn : goal.returns-clause-drawn
returns-clause-drawn c =
    region_drawn c.args.self.now _ _ c.args.clip.now c.bbox.result _ _ _ c.as_ref.ensures.value c.bbox.ensures.exact c.draw_in.ensures.drawn
