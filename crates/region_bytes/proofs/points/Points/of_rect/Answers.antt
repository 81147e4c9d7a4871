use Rattle.std.proofs.Common.{◌++◌}
use Rattle.region_bytes.specs.Words.{words_in}
use Rattle.region_bytes.specs.Scan.{points_in}
use Rattle.region_bytes.proofs.points.Points.of_rect.Goals as goal

pub returns : goal.returns
unfolding words_in points_in
returns c = (λ i. c.corners.ensures i ++ c.new.ensures i)
