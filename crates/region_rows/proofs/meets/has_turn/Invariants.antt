use Rattle.std.proofs.Common.{ℕ, ◌<◌}
use Rattle.region_rows.specs.Edges.{inside}
use Rattle.region_rows.specs.Hull.{row_in}
use Rattle.region_rows.specs.Meets.{HasBetween}
use Rattle.region_rows.proofs.meets.has_turn.Given as goal

abbrev pub invariant-loop-row : goal.invariant-loop-row
invariant-loop-row l = (k : ℕ) → k < l.row-index → HasBetween l.left l.right (inside (row_in l.rows k).1) → ⊥
