use Rattle.std.proofs.Common.{◌≡◌}
use Rattle.tb_geom.specs.Points.{PixelSet}
use Rattle.scan_region.specs.Descents.{IsDescent, spans_left}
use Rattle.region_rows.specs.Counts.{count_to}
use Rattle.scan_region.proofs.descent.Descent.next_span.Given as goal

abbrev pub invariant-rows : goal.invariant-rows
invariant-rows l = record {
  descent : (s : PixelSet) → IsDescent l.fn.self s → IsDescent l.self s;
  spans : (s : PixelSet) → IsDescent l.fn.self s → spans_left l.fn.self s ≡ spans_left l.self s;
}

abbrev pub decreases-rows : goal.decreases-rows
decreases-rows l = count_to l.self.next l.self.bottom
