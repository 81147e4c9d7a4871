use Rattle.std.proofs.Common.{◌≡◌, ℕ, List, ◌++◌, length}
use Rattle.line_words.specs.Hex.{hex_text}
use Rattle.watched_io.specs.Writes.{Sent}
use Rattle.line_words.proofs.region.write_digits.Given as goal

abbrev pub invariant-loop-rest : goal.invariant-loop-rest
invariant-loop-rest g l = (done : List ℕ) × (l.initial.rest ≡ done ++ l.rest) × Sent (g.S.Sink.output l.initial.sink) (g.S.Sink.output l.sink) (hex_text 65 done)

abbrev pub decreases-loop-rest : goal.decreases-loop-rest
decreases-loop-rest g l = length l.rest
