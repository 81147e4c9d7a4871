use Rattle.std.proofs.Common.{◌≡◌, ◌&&◌, true, ◌++◌}
use Rattle.tb_geom.specs.declared.point.Point.{Point}
use Rattle.tb_geom.specs.Points.{minus}
use Rattle.bit_map.specs.Bits.{bit}
use Rattle.scan_region.specs.Scan.{IsScan}
use Rattle.bit_blit.proofs.SpansLemmas.{spans_hold}
use Rattle.window_update.specs.Sets.{judged_set}
use Rattle.window_update.proofs.right.agree.Given as goal

abbrev pub invariant-loop-span : goal.invariant-loop-span
invariant-loop-span l = record {
  scan : IsScan (l.yielded ++ l.span-iterator) l.fn.region;
  same : (p : Point) → (spans_hold l.yielded p && judged_set l.fn.area (minus p l.place)) ≡ true → bit l.fn.screen p ≡ bit l.fn.image p;
}
