use Rattle.scan_region.proofs.Held.{alone_left}
use Rattle.scan_region.proofs.region.Region.less.Goals as goal

pub returns-then-is_apart : goal.returns-then-is_apart
returns-then-is_apart c = λ p. alone_left _ _ (c.is_apart.ensures.none c.if-is_apart.true p)
