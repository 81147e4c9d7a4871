use Rattle.std.proofs.Common.{◌≡◌, ◌++◌, take, drop, map}
use Rattle.window_list.specs.Lists.{relit}
use Rattle.window_list.proofs.list.WindowList.set_active.Given as goal

abbrev pub invariant-loop-at : goal.invariant-loop-at
invariant-loop-at g l = l.self ≡ record l.fn.self { records = record l.fn.self.records { items = map (relit l.former l.active) (take l.at l.fn.self.records.items) ++ drop l.at l.fn.self.records.items } }
