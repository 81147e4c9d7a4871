use Rattle.std.proofs.Common.{rules}
use Rattle.tb_geom.proofs.RectLemmas.{same_rect}
use Rattle.tb_geom.proofs.rect.Rect.moved.Goals as goal

pub returns : goal.returns
returns c = same_rect _ _ (search rules) (search rules) (search rules) (search rules)
