use Rattle.tb_geom.specs.Pixels.{holds}
use Rattle.scan_region.specs.Cuts.{cut_holds}
use Rattle.scan_region.proofs.Scanned.{alone}
use Rattle.scan_region.proofs.cut.alone.Goals as goal

pub returns : goal.returns
unfolding cut_holds
returns c = λ p. alone (holds c.args.region.now p)
