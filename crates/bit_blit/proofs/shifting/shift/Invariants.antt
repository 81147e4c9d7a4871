use Rattle.std.proofs.Common.{◌++◌}
use Rattle.std.specs.Prelude.{reverse}
use Rattle.scan_region.specs.Scan.{IsScan}
use Rattle.bit_blit.specs.Draws.{DrawsOnce}
use Rattle.bit_blit.specs.Shifts.{shift_holds, shifted}
use Rattle.bit_blit.proofs.SpansLemmas.{spans_hold}
use Rattle.bit_blit.proofs.shifting.shift.Given as goal

abbrev pub invariant-up : goal.invariant-up
invariant-up l = record {
  scan : IsScan (reverse (l.yielded ++ l.span-iterator)) l.fn.region;
  drawn : DrawsOnce (shift_holds l.fn.map (spans_hold l.yielded) l.distance) (shifted l.fn.map l.distance) l.fn.map l.map;
}

abbrev pub invariant-down : goal.invariant-down
invariant-down l = record {
  scan : IsScan (l.yielded ++ l.span-iterator) l.fn.region;
  drawn : DrawsOnce (shift_holds l.fn.map (spans_hold l.yielded) l.distance) (shifted l.fn.map l.distance) l.fn.map l.map;
}
