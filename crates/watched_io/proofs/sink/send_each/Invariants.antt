use Rattle.std.proofs.Common.{take}
use Rattle.std.specs.List.{flat_map}
use Rattle.watched_io.specs.Writes.{Sent}
use Rattle.watched_io.proofs.sink.send_each.Given as goal

abbrev pub invariant-loop-piece : goal.invariant-loop-piece
invariant-loop-piece g l = Sent (g.S.Sink.output l.initial.sink) (g.S.Sink.output l.sink) (flat_map (λ piece. piece.now) (take l.piece-index l.pieces))
