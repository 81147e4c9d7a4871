use Rattle.scan_region.specs.Cuts.{cut_holds}
use Rattle.region_rows.specs.Seen.{seen_set}
use Rattle.scan_region.proofs.cut_spans.CutSpansIterator.next.Goals as goal

pub invariant_of-self : goal.invariant_of-self
invariant_of-self c = c.next_span.ensures.rows (seen_set c.self.inside.up (cut_holds c.self.inside.cut)) c.self.invariant
