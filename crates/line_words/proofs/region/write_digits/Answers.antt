use Rattle.std.proofs.Common.{◌++◌, sym, rules, subst}
use Rattle.line_words.proofs.HexOut.{hex_text-append, hex_text-moves, hex_text-around}
use Rattle.watched_io.specs.Writes.{Sent}
use Rattle.watched_io.proofs.Written.{Sent-trans, Sends-exit}
use Rattle.line_words.proofs.region.write_digits.Goals as goal

pub returns-in_err-send : goal.returns-in_err-send
returns-in_err-send g c =
    let (done, split, sent) = c.loop-rest.invariant in
    let front = c.split_at.result.0.now in
    let back = c.split_at.result.1.now in
    let all = hex_text-moves 65 c.args.bytes.now done c.loop-rest.rest.now front back split (search rules) in
    Sends-exit _ _ _ c.from_residual.result c.in_err-send.field-0.0 _ _ _ _ c.from_residual.ensures.1 sent
    (rw (← c.digits_of-digits.ensures, ← c.as_slice.ensures.value) c.in_err-send.ensures) (hex_text-around 65 c.args.bytes.now done front back all)

pub loop-rest-preserved : goal.loop-rest-preserved
loop-rest-preserved g c =
    let (done, split, sent) = c.loop-rest.invariant in
    let front = c.split_at.result.0.now in
    let back = c.split_at.result.1.now in (
      done ++ front,
      hex_text-moves 65 c.args.bytes.now done c.loop-rest.rest.now front back split (search rules),
      subst (Sent _ _) (sym (hex_text-append 65 done front)) (Sent-trans _ _ _ _ _ sent (rw (← c.digits_of-digits.ensures, ← c.as_slice.ensures.value) c.in_ok-send.ensures)),
    )
