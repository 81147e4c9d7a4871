use Rattle.std.proofs.Common.{◌≡◌, ◌++◌, ◌+◌, ◌-◌, ◌≤◌, length, take, drop}
use Rattle.region_rows.proofs.turning.close_places.Given as goal

abbrev pub invariant-loop-at : goal.invariant-loop-at
invariant-loop-at l = record {
  within : l.at + 2 ≤ length l.edges;
  closed : take l.at l.edges ++ drop (l.at + 2) l.edges ≡ take l.fn.place l.fn.edges ++ drop (l.fn.place + 2) l.fn.edges;
}

abbrev pub decreases-loop-at : goal.decreases-loop-at
decreases-loop-at l = length l.edges - l.at
