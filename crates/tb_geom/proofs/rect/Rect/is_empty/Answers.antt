use Rattle.std.proofs.Common.{rules}
use Rattle.tb_geom.proofs.RectLemmas.{encloses_none}
use Rattle.tb_geom.proofs.rect.Rect.is_empty.Goals as goal

pub returns-else-self-clause-pixels : goal.returns-else-self-clause-pixels
returns-else-self-clause-pixels c = encloses_none c.args.self _ (search rules)
