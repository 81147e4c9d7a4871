use Rattle.std.proofs.Common.{◌≤ℤ◌, Bool, ℤ}
use Rattle.pixel_rows.specs.Columns.{AreEdgesOf}
use Rattle.pixel_rows.proofs.TurnedLemmas.{AreTurnedTo}
use Rattle.pixel_rows.proofs.columns.Columns.turned.Given as goal

abbrev pub invariant-loop-h : goal.invariant-loop-h
invariant-loop-h l = record {
  low : l.fn.bounds.left ≤ℤ l.h;
  turned : (row : ℤ → Bool) → AreEdgesOf l.self l.fn.bounds.left l.fn.bounds.right row → AreTurnedTo row l.fn.bounds.left l.h l.within l.row;
}
