use Rattle.std.proofs.Common.{subst}
use Rattle.region_bytes.specs.Bytes.{IsRegionBytes}
use Rattle.window_update.proofs.AreaLemmas.{region_read, is_read}
use Rattle.window_update.proofs.areas.judge.Goals as goal

pub returns-in_ok-read-in-Region : goal.returns-in_ok-read-in-Region
returns-in_ok-read-in-Region c =
    let its = subst (λ b. IsRegionBytes b c.in_ok-read-in-Region.field-0) c.as_slice.ensures c.in_ok-read-in-Region.ensures in
    (is_read c.args.area.now _ c.in_ok-read-in-Region.field-0 c.in-Region.is its, region_read c.args.area.now _ c.in_ok-read-in-Region.field-0 c.in-Region.is its)
