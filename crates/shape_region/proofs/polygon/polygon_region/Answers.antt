use Rattle.std.proofs.Common.{◌∙◌, pos}
use Rattle.shape_region.proofs.PolygonRowLemmas.{closed_by}
use Rattle.shape_region.proofs.polygon.polygon_region.Goals as goal

pub returns-clause-pixels : goal.returns-clause-pixels
returns-clause-pixels c = λ p. c.in_ok-closed_region.ensures p ∙ closed_by c.args.points.now (record { h = pos 0; v = pos 0 }) c.in-len1-up.len_at_least p
