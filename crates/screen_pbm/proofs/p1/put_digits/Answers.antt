use Rattle.std.proofs.Common.{◌≡◌, ◌+◌, ◌-◌, ◌*◌, ◌∙◌, length, rules, arith}
use Rattle.bit_map.specs.Patterns.{bit_of}
use Rattle.screen_pbm.proofs.Digits.{digits_put}
use Rattle.screen_pbm.proofs.p1.put_digits.Goals as goal

pub returns : goal.returns
returns c =
    let less : 8 * c.args.place + 8 - 8 * c.args.place ≡ 8 = omega arith in
    let eight : length c.digits_of.result ≡ 8 = search rules in
    rw (less, c.copy_from_slice.ensures.after) (digits_put c.args.text.now c.digits_of.result c.args.place (bit_of c.args.byte) c.requires.all c.requires.place eight c.digits_of.ensures)
