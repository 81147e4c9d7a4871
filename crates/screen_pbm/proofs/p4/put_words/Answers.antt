use Rattle.std.proofs.Common.{◌∙◌, arith}
use Rattle.std.proofs.lemmas.List.{get_or_default}
use Rattle.screen_pbm.proofs.Words.{bits_more}
use Rattle.screen_pbm.proofs.p4.put_words.Goals as goal

pub loop-place-preserved : goal.loop-place-preserved
loop-place-preserved c = record {
  all = c.put_word.ensures.all ∙ c.loop-place.invariant.all;
  bits = bits_more c.loop-place.bytes c.put_word.new.bytes c.args.words.now c.loop-place.place _ c.loop-place.invariant.bits
      (get_or_default c.args.words.now c.loop-place.place _ 0 (omega arith)) c.put_word.ensures;
}
