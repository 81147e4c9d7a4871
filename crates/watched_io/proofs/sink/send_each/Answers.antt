use Rattle.std.proofs.Common.{rules}
use Rattle.watched_io.proofs.Written.{Sends-exit, flat_map-around}
use Rattle.watched_io.proofs.sink.send_each.Goals as goal

pub returns-in_err-send : goal.returns-in_err-send
returns-in_err-send g c =
    Sends-exit _ _ _ c.from_residual.result c.in_err-send.field-0.0 _ _ _ _ c.from_residual.ensures.1 c.loop-piece.invariant c.in_err-send.ensures
    (flat_map-around (λ piece. piece.now) c.args.pieces.now c.loop-piece.piece-index _ (search rules))
