use Rattle.std.proofs.Common.{◌≡◌, false, ℤ, ◌≤ℤ◌, ◌<ℤ◌}
use Rattle.pixel_rows.specs.Columns.{changes}
use Rattle.pixel_rows.proofs.pixel_rows.has_change.Given as goal

abbrev pub invariant-loop-h : goal.invariant-loop-h
invariant-loop-h l = (x : ℤ) → l.fn.bounds.left ≤ℤ x → x <ℤ l.h → changes l.above l.row x ≡ false
