use Rattle.std.proofs.Common.{length}
use Rattle.shape_region.proofs.line.+lines_region.Given as goal

abbrev pub decreases-lines_region : goal.decreases-lines_region
decreases-lines_region l = length l.others.now
