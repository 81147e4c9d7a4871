use Rattle.std.proofs.Common.{◌≡◌, ◌≤◌, ◌-◌, ◌++◌, length, drop}
use Rattle.dialog_items.specs.Filling.{filled, lent_params}
use Rattle.dialog_items.proofs.filling.append_filled.Given as goal

abbrev pub invariant-loop-at : goal.invariant-loop-at
invariant-loop-at l = record {
  within : l.at ≤ length l.bytes;
  text : l.text.items ++ filled (lent_params l.params) (drop l.at l.bytes) ≡ l.initial.text.items ++ filled (lent_params l.params) l.bytes;
}

abbrev pub decreases-loop-at : goal.decreases-loop-at
decreases-loop-at l = length l.bytes - l.at
