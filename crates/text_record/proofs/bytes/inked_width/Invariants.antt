use Rattle.std.proofs.Common.{◌≡◌, ◌≤◌, ◌*◌, drop}
use Rattle.text_record.proofs.WidthLemmas.{inked_walk}
use Rattle.text_record.proofs.bytes.inked_width.Given as goal

abbrev pub invariant-loop-byte : goal.invariant-loop-byte
invariant-loop-byte l = record {
  value : inked_walk l.widths l.wide l.inked (drop l.byte-index l.bytes) ≡ inked_walk l.widths 0 0 l.bytes;
  small : l.wide ≤ 255 * l.byte-index;
  inked : l.inked ≤ l.wide;
}
