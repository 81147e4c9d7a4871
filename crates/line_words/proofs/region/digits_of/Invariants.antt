use Rattle.std.proofs.Common.{◌≡◌, ◌*◌, take}
use Rattle.arrayvec.specs.ArrayVec.{array_vec_len}
use Rattle.line_words.specs.Hex.{hex_text}
use Rattle.line_words.proofs.region.digits_of.Given as goal

abbrev pub invariant-loop-byte : goal.invariant-loop-byte
invariant-loop-byte l = record {
  digits : l.digits.items ≡ hex_text 65 (take l.byte-index l.part);
  len : array_vec_len l.digits ≡ 2 * l.byte-index;
}
