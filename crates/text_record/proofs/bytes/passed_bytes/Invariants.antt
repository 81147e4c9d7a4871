use Rattle.std.proofs.Common.{◌≡◌, ◌+◌, ◌*◌, drop, pos, ◌-ℤ◌, ◌≤ℤ◌}
use Rattle.text_record.specs.Places.{passed_bytes}
use Rattle.text_record.proofs.bytes.passed_bytes.Given as goal

abbrev pub invariant-loop-byte : goal.invariant-loop-byte
invariant-loop-byte l = record {
  value : l.passed + passed_bytes l.widths l.left (drop l.byte-index l.bytes) ≡ passed_bytes l.widths l.ahead l.bytes;
  count : l.passed ≡ l.byte-index;
  from : (l.ahead -ℤ pos (255 * l.byte-index)) ≤ℤ l.left;
  to : l.left ≤ℤ l.ahead;
}
