use Rattle.std.proofs.Common.{length}
use Rattle.shape_region.proofs.polygon.+closed_region.Given as goal

abbrev pub decreases-closed_region : goal.decreases-closed_region
decreases-closed_region l = length l.others.now
