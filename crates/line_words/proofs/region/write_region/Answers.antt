use Rattle.std.proofs.Common.{[], ◌∷◌, ◌++◌, codes}
use Rattle.line_words.specs.Hex.{hex_text}
use Rattle.watched_io.proofs.Written.{Sends-after, Sends-exit_first}
use Rattle.line_words.proofs.region.write_region.Goals as goal

pub returns-in_err-send : goal.returns-in_err-send
returns-in_err-send g c =
    Sends-exit_first _ _ c.from_residual.result c.in_err-send.field-0.0 (codes "ok ") (hex_text 65 c.args.bytes.now ++ 10 ∷ []) c.from_residual.ensures.1 c.in_err-send.ensures

pub returns-in_err-write_digits : goal.returns-in_err-write_digits
returns-in_err-write_digits g c =
    Sends-after _ _ _ c.from_residual-in_err-write_digits.result (codes "ok ") (hex_text 65 c.args.bytes.now ++ 10 ∷ []) c.in_ok-send.ensures
    (Sends-exit_first _ _ c.from_residual-in_err-write_digits.result c.in_err-write_digits.field-0.0 (hex_text 65 c.args.bytes.now) (10 ∷ []) c.from_residual-in_err-write_digits.ensures.1 c.in_err-write_digits.ensures)

pub returns : goal.returns
returns g c =
    Sends-after _ _ _ c.send-2.result (codes "ok ") (hex_text 65 c.args.bytes.now ++ 10 ∷ []) c.in_ok-send.ensures
    (Sends-after _ _ _ c.send-2.result (hex_text 65 c.args.bytes.now) (10 ∷ []) c.in_ok-write_digits.ensures c.send-2.ensures)
