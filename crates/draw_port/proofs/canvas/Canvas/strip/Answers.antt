use Rattle.draw_port.proofs.StripLemmas.{all_rows}
use Rattle.draw_port.proofs.canvas.Canvas.strip.Goals as goal

pub returns-clause-drawn : goal.returns-clause-drawn
returns-clause-drawn g c =
    all_rows c.args.self.now _ (g.S.Strip.pixels c.args.strip.now) c.reach.result c.bounds.result c.sect-rows.result _ _
    c.reach.ensures.around c.bounds.ensures.around c.sect-rows.ensures.pixels c.strip_rows.ensures.drawn
