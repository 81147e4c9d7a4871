use Rattle.shape_strips.proofs.RoundLemmas.{outside_rect}
use Rattle.shape_strips.proofs.InsideLemmas.{inside_lacks}
use Rattle.shape_strips.proofs.inside.InsideStripStrip.bounds.Goals as goal

pub returns-clause-around : goal.returns-clause-around
returns-clause-around c = λ p out. inside_lacks c.args.self.now.rect c.args.self.now.corner c.args.self.now.pen p (outside_rect c.args.self.now.rect c.args.self.now.corner p out)
