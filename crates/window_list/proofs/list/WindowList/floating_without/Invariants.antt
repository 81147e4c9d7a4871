use Rattle.std.proofs.Common.{◌≡◌, ◌+◌, ◌≤◌, drop}
use Rattle.window_list.specs.Lists.{floats}
use Rattle.window_list.proofs.ClassLemmas.{leading_from}
use Rattle.window_list.proofs.list.WindowList.floating_without.Given as goal

abbrev pub invariant-loop-at : goal.invariant-loop-at
invariant-loop-at g l = record {
  counted : leading_from floats 0 l.without l.self.records.items ≡ l.count + leading_from floats l.at l.without (drop l.at l.self.records.items);
  low : l.count ≤ l.at;
}
