use Rattle.std.proofs.Common.{◌≡◌, ℕ, ◌<◌, get_or, false}
use Rattle.menu_record.specs.Appending.{is_parting}
use Rattle.menu_record.proofs.reading.piece_end.Given as goal

abbrev pub invariant-loop-at : goal.invariant-loop-at
invariant-loop-at l = (k : ℕ) → k < l.at → is_parting (get_or l.text k 0) ≡ false
