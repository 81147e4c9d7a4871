use Rattle.std.proofs.Common.{◌∙◌, pos}
use Rattle.shape_region.proofs.PolygonLemmas.{framed_by}
use Rattle.shape_region.proofs.line.frame_polygon_region.Goals as goal

pub returns-clause-pixels : goal.returns-clause-pixels
returns-clause-pixels c = λ p.
    c.in_ok-lines_region.ensures p ∙ framed_by c.args.points.now (record { h = pos 0; v = pos 0 }) c.args.pen c.in-len1-up.len_at_least p
