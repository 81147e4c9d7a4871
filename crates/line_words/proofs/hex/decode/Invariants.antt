use Rattle.std.proofs.Common.{◌≡◌, ◌*◌, ◌++◌, take, drop}
use Rattle.line_words.specs.Hex.{hex_value}
use Rattle.line_words.proofs.hex.decode.Given as goal

-- the bytes so far, and those of the digits that are left, are those of all digits
abbrev pub invariant-loop-at : goal.invariant-loop-at
invariant-loop-at l = record {
  bytes : take l.at l.digits ++ hex_value (drop (2 * l.at) l.digits) ≡ hex_value l.fn.digits;
}
