use Rattle.std.proofs.Common.{◌≡◌, length}
use Rattle.screen_pbm.specs.Packed.{HasBits}
use Rattle.screen_pbm.proofs.p4.put_words.Given as goal

abbrev pub invariant-loop-place : goal.invariant-loop-place
invariant-loop-place l = record {
  all : length l.bytes ≡ 128;
  bits : HasBits l.bytes l.words l.place;
}
