use Rattle.std.proofs.Common.{rules}
use Rattle.tb_geom.proofs.RectLemmas.{same_rect}
use Rattle.shape_region.proofs.polygon_rows.widened.Goals as goal

pub returns : goal.returns
returns c = same_rect _ _ (search rules) (search rules) (search rules) (search rules)
