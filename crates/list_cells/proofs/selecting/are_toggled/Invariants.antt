use Rattle.std.proofs.Common.{◌≡◌, ◌<◌, ℕ, false}
use Rattle.list_cells.specs.Selections.{is_toggled_at}
use Rattle.list_cells.proofs.selecting.are_toggled.Given as goal

abbrev pub invariant-loop-place : goal.invariant-loop-place
invariant-loop-place l = (k : ℕ) → k < l.place → is_toggled_at l.columns l.selecting l.contents k ≡ false
