use Rattle.std.proofs.Common.{◌≡◌, ◌≤◌, ◌+◌, ◌*◌, drop}
use Rattle.text_lines.specs.Widths.{bytes_width}
use Rattle.text_lines.proofs.widths.bytes_width.Given as goal

abbrev pub invariant-loop-byte : goal.invariant-loop-byte
invariant-loop-byte l = record {
  value : l.wide + bytes_width l.widths (drop l.byte-index l.bytes) ≡ bytes_width l.widths l.bytes;
  small : l.wide ≤ 255 * l.byte-index;
}
