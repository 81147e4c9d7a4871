use Rattle.std.proofs.Common.{◌≡◌, ◌∷◌, ◌++◌, ◌-◌, ◌≤◌, length, take, drop}
use Rattle.region_rows.proofs.turning.open_places.Given as goal

abbrev pub invariant-loop-at : goal.invariant-loop-at
invariant-loop-at l = record {
  within : l.at ≤ length l.edges;
  carried : take l.at l.edges ++ l.first ∷ l.second ∷ drop l.at l.edges ≡ take l.fn.place l.fn.edges ++ l.fn.x ∷ l.fn.y ∷ drop l.fn.place l.fn.edges;
}

abbrev pub decreases-loop-at : goal.decreases-loop-at
decreases-loop-at l = length l.edges - l.at
