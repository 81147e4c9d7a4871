use Rattle.bit_blit.proofs.SourceLemmas.{map-near}
use Rattle.bit_blit.proofs.copying.BitMapSource.held.Goals as goal

pub returns-clause-near : goal.returns-clause-near
returns-clause-near c = map-near c.args.self.now c.held.ensures.limits.0 c.held.ensures.limits.1
