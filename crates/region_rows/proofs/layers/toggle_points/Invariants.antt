use Rattle.std.proofs.Common.{◌≡◌, ◌⊎◌, ◌<◌, ◌≤◌, ◌+◌, ℕ, ℤ, Bool, map, take, length}
use Rattle.region_rows.specs.Bits.{has_bit}
use Rattle.region_rows.specs.Edges.{differ, inside}
use Rattle.region_rows.specs.Lines.{IsLine}
use Rattle.region_rows.specs.Seen.{sign}
use Rattle.region_rows.specs.Counts.{count_to}
use Rattle.region_rows.proofs.layers.toggle_points.Given as goal

abbrev pub invariant-loop-x : goal.invariant-loop-x
invariant-loop-x l = record {
  line : (f : ℤ → Bool) → IsLine l.fn.words l.fn.line f → IsLine l.words l.line (λ h. differ (inside (map (sign l.up) (take l.x-index l.points)) h) (f h));
  apart : (k : ℕ) → (k < l.fn.line.base) ⊎ (l.fn.line.base + count_to l.fn.line.left l.fn.line.right ≤ k) → has_bit l.words k ≡ has_bit l.fn.words k;
  length : length l.words ≡ length l.fn.words;
  left : l.line.left ≡ l.fn.line.left;
  right : l.line.right ≡ l.fn.line.right;
  base : l.line.base ≡ l.fn.line.base;
}
