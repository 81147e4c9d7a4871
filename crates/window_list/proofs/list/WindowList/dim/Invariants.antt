use Rattle.std.proofs.Common.{◌≡◌, ◌++◌, take, drop, map}
use Rattle.window_list.specs.Lists.{dimmed}
use Rattle.window_list.proofs.list.WindowList.dim.Given as goal

abbrev pub invariant-loop-at : goal.invariant-loop-at
invariant-loop-at g l = l.self ≡ record l.fn.self { records = record l.fn.self.records { items = map (dimmed l.active) (take l.at l.fn.self.records.items) ++ drop l.at l.fn.self.records.items } }
