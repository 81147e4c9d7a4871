use Rattle.std.proofs.Common.{◌≡◌, ap, get_or, refl, arith}
use Rattle.screen_pbm.proofs.Digits.{put_more}
use Rattle.screen_pbm.proofs.p1.put_word.Goals as goal

pub loop-j-preserved : goal.loop-j-preserved
loop-j-preserved c =
    put_more c.args.text.now c.loop-j.text c.put_digits.new.text c.args.place c.args.word c.loop-j.j _ _ (omega arith) refl c.loop-j.invariant
    (ap (λ l. get_or l c.loop-j.j 0) c.to_be_bytes-bytes.ensures) c.put_digits.ensures
