use Rattle.bit_blit.proofs.SourceLemmas.{image-near}
use Rattle.bit_blit.proofs.copying.BitImageSource.contains.Goals as goal

pub returns-clause-near : goal.returns-clause-near
returns-clause-near c = image-near c.args.self.now c.contains.ensures.limits.0 c.contains.ensures.limits.1
