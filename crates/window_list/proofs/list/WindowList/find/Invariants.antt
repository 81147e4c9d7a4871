use Rattle.std.proofs.Common.{◌≡◌, ℕ, ◌<◌, false, get_or}
use Rattle.window_list.specs.Lists.{has_serial}
use Rattle.window_list.proofs.list.WindowList.find.Given as goal

abbrev pub invariant-loop-at : goal.invariant-loop-at
invariant-loop-at g l = (k : ℕ) (d : _) → k < l.at → has_serial l.serial (get_or l.self.records.items k d) ≡ false
