use Rattle.std.proofs.Common.{◌≡◌, ◌-◌, ◌≤◌, ℤ, ◌≤ℤ◌, length}
use Rattle.region_rows.specs.Cursor.{IsCountTo}
use Rattle.region_rows.specs.Edges.{is_odd}
use Rattle.region_rows.proofs.kernel.count_to.Given as goal

abbrev pub invariant-loop-at : goal.invariant-loop-at
invariant-loop-at l = record {
  within : l.at.next ≤ length l.edges;
  odd : is_odd l.at.next ≡ l.at.inside;
  on : l.fn.from.next ≤ l.at.next;
  count : (w : ℤ) → w ≤ℤ l.x → IsCountTo l.edges l.fn.from.next w → IsCountTo l.edges l.at.next l.x;
}

abbrev pub decreases-loop-at : goal.decreases-loop-at
decreases-loop-at l = length l.edges - l.at.next
