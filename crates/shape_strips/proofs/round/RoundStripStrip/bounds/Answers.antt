use Rattle.shape_strips.proofs.RoundLemmas.{outside_rect}
use Rattle.shape_strips.proofs.round.RoundStripStrip.bounds.Goals as goal

pub returns-clause-around : goal.returns-clause-around
returns-clause-around c = outside_rect c.args.self.now.rect c.args.self.now.corner
