use Rattle.std.proofs.Common.{◌++◌, ◌&&◌}
use Rattle.tb_geom.specs.Rects.{rect_holds}
use Rattle.scan_region.specs.Cuts.{cut_holds}
use Rattle.scan_region.specs.Scan.{IsScanOf}
use Rattle.bit_blit.specs.Draws.{DrawsOnce}
use Rattle.bit_blit.proofs.SpansLemmas.{spans_hold}
use Rattle.bit_blit.proofs.walk.draw_spans.Given as goal

abbrev pub invariant-loop-span : goal.invariant-loop-span
invariant-loop-span g l = record {
  scan : IsScanOf (l.yielded ++ l.span-iterator) (λ p. rect_holds l.fn.area p && cut_holds l.fn.cut p);
  drawn : DrawsOnce (spans_hold l.yielded) (g.R.Rule.value l.rule) l.fn.map l.map;
}
