use Rattle.shape_arcs.proofs.WedgeLemmas.{outside_arc}
use Rattle.shape_arcs.proofs.arc.ArcRows.bounds.Goals as goal

pub returns-clause-around : goal.returns-clause-around
returns-clause-around c = λ p out. outside_arc c.args.self.now.rect c.args.self.now.start c.args.self.now.angle p out
