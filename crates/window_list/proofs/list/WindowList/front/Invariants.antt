use Rattle.std.proofs.Common.{◌≡◌, drop}
use Rattle.window_list.specs.Lists.{first_leading}
use Rattle.window_list.proofs.list.WindowList.front.Given as goal

abbrev pub invariant-loop-at : goal.invariant-loop-at
invariant-loop-at g l = first_leading (drop l.at l.self.records.items) ≡ first_leading l.self.records.items
