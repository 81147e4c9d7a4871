use Rattle.scan_region.specs.Cuts.{cut_holds}
use Rattle.draw_port.proofs.ClippedLemmas.{reached}
use Rattle.draw_port.proofs.canvas.Canvas.draw_in.Goals as goal

pub returns-clause-drawn : goal.returns-clause-drawn
returns-clause-drawn g c =
    reached c.args.self.now (cut_holds c.args.cut.now) c.args.rect c.reach-reach.result c.sect.result _ _ _ c.reach-reach.ensures.around c.sect.ensures.pixels c.draw_spans.ensures.drawn
