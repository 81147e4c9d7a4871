use Rattle.std.proofs.lemmas.Result.{MatchResult-weaker}
use Rattle.region_rows.proofs.Sets.{IsRegionBytes-of, IsUnwritten-of}
use Rattle.scan_region.proofs.Opened.{opened}
use Rattle.scan_region.proofs.region.Region.to_bytes.Goals as goal

pub write_rows-requires : goal.write_rows-requires
write_rows-requires c = rw c.as_slice.ensures.value (opened _ _ c.self.invariant).are_rows

pub finish-requires : goal.finish-requires
finish-requires c =
    let r = (opened _ _ c.self.invariant).are_rows in
    record { rows = c.self.inside.rows.items; canonical = r.canonical; in_range = r.in_range; written = rw c.as_slice.ensures.value at c.write_rows.ensures }

pub returns : goal.returns
returns c =
    let r = (opened _ _ c.self.invariant).are_rows in
    let rows = c.self.inside.rows.items in
    MatchResult-weaker c.finish.result (c.finish.ensures rows (rw c.as_slice.ensures.value at c.write_rows.ensures) r.canonical)
    (λ bytes done. IsRegionBytes-of rows _ r c.self.view_is _ done.0 done.1)
    (λ e why. IsUnwritten-of rows _ r c.self.view_is e why)
