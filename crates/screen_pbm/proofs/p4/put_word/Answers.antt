use Rattle.std.proofs.Common.{◌≡◌, ◌+◌, ◌-◌, ◌*◌, ◌∙◌, arith}
use Rattle.std.specs.Int.{to_be_bytes, w64}
use Rattle.screen_pbm.proofs.Words.{put_is}
use Rattle.screen_pbm.proofs.p4.put_word.Goals as goal

pub returns : goal.returns
returns c =
    let less : 8 * c.args.place + 8 - 8 * c.args.place ≡ 8 = omega arith in
    let bytes : c.copy_from_slice.new.self ≡ to_be_bytes w64 c.args.word = c.copy_from_slice.ensures.after ∙ c.to_be_bytes.ensures in
    rw (less, bytes) (put_is c.args.bytes.now c.args.place c.args.word c.requires.all c.requires.place)
