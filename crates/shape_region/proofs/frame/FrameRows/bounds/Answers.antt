use Rattle.shape_strips.proofs.RoundLemmas.{outside_rect}
use Rattle.shape_region.proofs.RunLemmas.{no_frame}
use Rattle.shape_region.proofs.frame.FrameRows.bounds.Goals as goal

pub returns-clause-around : goal.returns-clause-around
returns-clause-around c = λ p out. no_frame c.args.self.now.rect c.args.self.now.corner c.args.self.now.pen p (outside_rect c.args.self.now.rect c.args.self.now.corner p out)
