use Rattle.std.proofs.Common.{◌≡◌, ◌+◌, ◌*◌, ◌/◌, ◌<◌, ◌++◌, take, length, sym, ap, ◌∙◌, append-nil, arith}
use Rattle.std.proofs.Math.ListN.{set}
use Rattle.line_words.proofs.HexLemmas.{rest_after, byte_at, one_more, none_left}
use Rattle.line_words.proofs.hex.decode.Goals as goal

pub loop-at-preserved : goal.loop-at-preserved
loop-at-preserved c =
    let xs = c.loop-at.digits in
    let at = c.loop-at.at in
    let within : 2 * at + 1 < length xs = omega (arith, c.loop-at-test.true, c.loop-at.auto.digits) in
    let byte : c.digit_value.result * 16 + c.digit_value-in-loop-at.result ≡ byte_at xs at =
    λ i. c.digit_value.ensures.value i * 16 + c.digit_value-in-loop-at.ensures.value i in
    record { bytes = ap (λ b. rest_after (set xs at b) (at + 1)) byte ∙ one_more xs at within ∙ c.loop-at.invariant.bytes }

pub returns : goal.returns
returns c =
    let xs = c.loop-at.digits in
    let at = c.loop-at.at in
    let end : length c.args.digits.now / 2 ≡ at = omega (arith, c.loop-at-test.false, c.loop-at.auto.at-end) in
    let few = none_left xs at (omega (arith, end, c.loop-at.auto.digits)) in
    ap (λ k. take k xs) end ∙ sym (append-nil (take at xs)) ∙ ap (λ l. take at xs ++ l) (sym few) ∙ c.loop-at.invariant.bytes
