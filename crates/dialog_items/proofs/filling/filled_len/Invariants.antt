use Rattle.std.proofs.Common.{◌≡◌, ◌≤◌, ◌+◌, ◌-◌, length, drop}
use Rattle.dialog_items.specs.Filling.{filled, lent_params}
use Rattle.dialog_items.proofs.filling.filled_len.Given as goal

abbrev pub invariant-loop-at : goal.invariant-loop-at
invariant-loop-at l = record {
  within : l.at ≤ length l.bytes;
  count : l.len + length (filled (lent_params l.params) (drop l.at l.bytes)) ≡ length (filled (lent_params l.params) l.bytes);
}

abbrev pub decreases-loop-at : goal.decreases-loop-at
decreases-loop-at l = length l.bytes - l.at
