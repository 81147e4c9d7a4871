use Rattle.std.proofs.Common.{subst}
use Rattle.region_bytes.specs.Bytes.{IsRegionBytes}
use Rattle.window_update.proofs.AreaLemmas.{region_read}
use Rattle.window_update.proofs.areas.region_of.Goals as goal

pub returns-in-Ok-from_bytes : goal.returns-in-Ok-from_bytes
returns-in-Ok-from_bytes c = region_read c.args.area.now _ c.in-Ok-from_bytes.region c.in-Region.is (subst (λ b. IsRegionBytes b c.in-Ok-from_bytes.region) c.as_slice.ensures c.in-Ok-from_bytes.ensures)
