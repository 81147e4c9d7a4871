use Rattle.std.proofs.Common.{◌≡◌, ◌+◌, ◌*◌, min}
use Rattle.std.specs.List.{flat_map, range_with_len}
use Rattle.arrayvec.specs.ArrayVec.{array_vec_len}
use Rattle.bit_map.specs.Bits.{bit}
use Rattle.screen_pbm.specs.Pbm.{row_digits, line_text}
use Rattle.screen_pbm.proofs.p1.row_of.Given as goal

abbrev pub invariant-loop-line : goal.invariant-loop-line
invariant-loop-line l = record {
  lines : l.text.items ≡ flat_map (line_text (row_digits l.map.width (bit l.map) l.row)) (range_with_len 0 l.line);
  len : array_vec_len l.text ≡ min (70 * l.line) l.map.width + l.line;
}
