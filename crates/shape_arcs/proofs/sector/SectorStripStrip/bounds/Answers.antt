use Rattle.shape_arcs.proofs.SectorLemmas.{no_sector}
use Rattle.shape_arcs.proofs.sector.SectorStripStrip.bounds.Goals as goal

pub returns-clause-around : goal.returns-clause-around
returns-clause-around c = λ p out. no_sector c.args.self.now.rect c.args.self.now.start c.args.self.now.end c.args.self.now.narrow p out
