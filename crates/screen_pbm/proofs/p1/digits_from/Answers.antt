use Rattle.std.proofs.Common.{◌∙◌, arith}
use Rattle.std.proofs.lemmas.List.{get_or_default}
use Rattle.screen_pbm.proofs.Digits.{words_more}
use Rattle.screen_pbm.proofs.p1.digits_from.Goals as goal

pub loop-place-preserved : goal.loop-place-preserved
loop-place-preserved c = record {
  all = c.put_word.ensures.all ∙ c.loop-place.invariant.all;
  digits = words_more c.loop-place.text c.put_word.new.text c.args.words.now c.loop-place.place _ c.loop-place.invariant.digits
      (get_or_default c.args.words.now c.loop-place.place _ 0 (omega arith)) c.put_word.ensures;
}
