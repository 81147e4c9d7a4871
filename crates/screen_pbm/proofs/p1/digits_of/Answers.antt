use Rattle.std.proofs.Common.{◌<◌, ◌∙◌, ap, get_or, rules}
use Rattle.std.specs.Int.{to_le_bytes, w64}
use Rattle.screen_pbm.proofs.Digits.{spread, spread_digit}
use Rattle.screen_pbm.proofs.p1.digits_of.Goals as goal

pub returns : goal.returns
returns c j low =
    let small : c.args.byte < 256 = search rules in
    ap (λ l. get_or l j 0) c.to_le_bytes.ensures ∙ ap (λ n. get_or (to_le_bytes w64 (spread n)) j 0) c.from.ensures ∙ spread_digit c.args.byte j small low
