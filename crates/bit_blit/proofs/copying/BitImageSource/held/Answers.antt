use Rattle.bit_blit.proofs.SourceLemmas.{image-near}
use Rattle.bit_blit.proofs.copying.BitImageSource.held.Goals as goal

pub returns-clause-near : goal.returns-clause-near
returns-clause-near c = image-near c.args.self.now c.held.ensures.limits.0 c.held.ensures.limits.1
