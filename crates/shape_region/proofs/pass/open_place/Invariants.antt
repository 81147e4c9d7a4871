use Rattle.std.proofs.Common.{◌≡◌, ◌∷◌, ◌++◌, ◌-◌, ◌≤◌, length, take, drop}
use Rattle.shape_region.proofs.pass.open_place.Given as goal

abbrev pub invariant-loop-at : goal.invariant-loop-at
invariant-loop-at l = record {
  within : l.at ≤ length l.columns;
  carried : take l.at l.columns ++ l.last ∷ drop l.at l.columns ≡ take l.fn.place l.fn.columns ++ l.fn.x ∷ drop l.fn.place l.fn.columns;
}

abbrev pub decreases-loop-at : goal.decreases-loop-at
decreases-loop-at l = length l.columns - l.at
