use Rattle.std.proofs.Common.{true, ap, sym, subst}
use Rattle.std.specs.Prelude.{reverse}
use Rattle.tb_geom.specs.declared.rect.Rect.{Rect}
use Rattle.scan_region.specs.Cuts.{cut_holds}
use Rattle.scan_region.specs.Scan.{IsScan}
use Rattle.region_rows.specs.Seen.{seen_set}
use Rattle.scan_region.proofs.Boxes.{box_in_range}
use Rattle.scan_region.proofs.Scanned.{up_scan, up_near}
use Rattle.scan_region.proofs.Opened.{opened}
use Rattle.scan_region.proofs.region.Region.spans_up.Goals as goal

pub seen_rect-requires : goal.seen_rect-requires
seen_rect-requires c = rw c.rect.ensures (box_in_range c.self.inside.rows.items c.self.inside.bounds (opened _ _ c.self.invariant))

pub new-requires : goal.new-requires
new-requires c =
    let s = c.self.inside in
    let e = rw c.rect.ensures at c.seen_rect.ensures in
    up_near s.rows.items s.bounds c.seen_rect.result (seen_set true (cut_holds c.alone.result)) c.spans_seen.result (opened _ _ c.self.invariant) (ap (λ (r : Rect). r.left) e) (ap (λ (r : Rect). r.right) e) (ap (λ (r : Rect). r.top) e) (ap (λ (r : Rect). r.bottom) e) c.spans_seen.ensures

pub returns : goal.returns
returns c =
    let s = c.self.inside in
    let e = rw c.rect.ensures at c.seen_rect.ensures in
    subst (λ l. IsScan (reverse l) c.args.self.now) (sym c.new.ensures)
    (up_scan s.rows.items s.bounds c.seen_rect.result c.args.self.now (cut_holds c.alone.result) c.spans_seen.result (opened _ _ c.self.invariant) c.self.view_is c.alone.ensures (ap (λ (r : Rect). r.left) e) (ap (λ (r : Rect). r.right) e) (ap (λ (r : Rect). r.top) e) (ap (λ (r : Rect). r.bottom) e) c.spans_seen.ensures)
