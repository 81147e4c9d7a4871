use Rattle.std.proofs.Common.{◌≡◌, ◌<◌, ◌≤◌, ℕ}
use Rattle.list_cells.specs.Blocks.{content_at}
use Rattle.list_cells.specs.Selections.{content_after}
use Rattle.list_cells.proofs.selecting.select_cells.Given as goal

abbrev pub invariant-loop-place : goal.invariant-loop-place
invariant-loop-place l = record {
  below : (k : ℕ) → k < l.place → content_at l.contents k ≡ content_after l.columns l.selecting k (content_at l.fn.contents k);
  above : (k : ℕ) → l.place ≤ k → content_at l.contents k ≡ content_at l.fn.contents k;
}
