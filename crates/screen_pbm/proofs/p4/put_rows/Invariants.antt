use Rattle.std.proofs.Common.{◌≡◌, ◌+◌, ◌*◌, ◌/◌, ◌≤◌, length, take}
use Rattle.std.specs.List.{flat_map, range_with_len}
use Rattle.bit_map.specs.Bits.{bit}
use Rattle.screen_pbm.specs.Pbm.{row_bytes}
use Rattle.screen_pbm.proofs.p4.put_rows.Given as goal

abbrev pub invariant-loop-k : goal.invariant-loop-k
invariant-loop-k l = record {
  all : length l.bytes ≡ length l.fn.bytes;
  low : l.k ≤ l.count;
  rows : take ((l.map.width + 7) / 8 * l.k) l.bytes ≡ flat_map (row_bytes l.map.width (bit l.map)) (range_with_len l.first l.k);
}
