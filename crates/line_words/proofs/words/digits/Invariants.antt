use Rattle.std.proofs.Common.{◌≡◌, ◌^◌, ◌<◌, true, take}
use Rattle.std.specs.List.{list_all}
use Rattle.line_words.specs.Words.{digits_value, is_digit}
use Rattle.line_words.proofs.words.digits.Given as goal

-- the bytes so far are digits, and stand for the value
abbrev pub invariant-loop-b : goal.invariant-loop-b
invariant-loop-b l = record {
  value : l.value ≡ digits_value (take l.b-index l.bytes);
  small : l.value < 10 ^ l.b-index;
  digits : list_all is_digit (take l.b-index l.bytes) ≡ true;
}
