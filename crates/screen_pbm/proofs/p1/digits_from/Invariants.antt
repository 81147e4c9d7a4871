use Rattle.std.proofs.Common.{◌≡◌, length}
use Rattle.screen_pbm.specs.Packed.{HasDigits}
use Rattle.screen_pbm.proofs.p1.digits_from.Given as goal

abbrev pub invariant-loop-place : goal.invariant-loop-place
invariant-loop-place l = record {
  all : length l.text ≡ 1024;
  digits : HasDigits l.text l.words l.place;
}
