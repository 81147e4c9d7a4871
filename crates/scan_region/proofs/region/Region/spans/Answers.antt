use Rattle.std.proofs.Common.{sym, subst}
use Rattle.scan_region.specs.Cuts.{cut_holds}
use Rattle.scan_region.specs.Scan.{IsScan}
use Rattle.scan_region.proofs.Scanned.{region_scan}
use Rattle.scan_region.proofs.Opened.{opened}
use Rattle.scan_region.proofs.region.Region.spans.Goals as goal

pub returns : goal.returns
returns c =
    let s = c.self.inside in
    let scan = rw c.rect.ensures at c.spans_within.ensures in
    subst (λ l. IsScan l c.args.self.now) (sym c.new.ensures) (region_scan s.rows.items s.bounds c.args.self.now (cut_holds c.alone.result) c.spans_within.result (opened _ _ c.self.invariant) c.self.view_is c.alone.ensures scan)
