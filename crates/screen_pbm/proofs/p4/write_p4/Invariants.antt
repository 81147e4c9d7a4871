use Rattle.std.proofs.Common.{◌≤◌, ◌-◌}
use Rattle.std.specs.List.{flat_map, range_with_len}
use Rattle.bit_map.specs.Bits.{bit}
use Rattle.watched_io.specs.Writes.{Sent}
use Rattle.screen_pbm.specs.Pbm.{row_bytes}
use Rattle.screen_pbm.proofs.p4.write_p4.Given as goal

abbrev pub invariant-loop-row : goal.invariant-loop-row
invariant-loop-row g l = record {
  low : l.row ≤ l.height;
  sent : Sent (g.S.Sink.output l.initial.sink) (g.S.Sink.output l.sink)
      (flat_map (row_bytes l.map.width (bit l.map)) (range_with_len 0 l.row));
}

abbrev pub decreases-loop-row : goal.decreases-loop-row
decreases-loop-row g l = l.height - l.row
