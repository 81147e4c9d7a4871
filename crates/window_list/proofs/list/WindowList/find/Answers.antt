use Rattle.std.proofs.Common.{sym, arith, rules}
use Rattle.def_iface.proofs.StockLemmas.{position-first, position-nowhere}
use Rattle.window_list.specs.Lists.{has_serial}
use Rattle.window_list.proofs.list.WindowList.find.Goals as goal

pub returns-then-at-serial : goal.returns-then-at-serial
returns-then-at-serial g c =
    sym (position-first (has_serial c.args.serial) c.args.self.now.records.items c.loop-at.at c.at.result.now (search rules) (λ k e h. c.loop-at.invariant k e h) (search rules))

pub returns : goal.returns
returns g c = sym (position-nowhere (has_serial c.args.serial) c.args.self.now.records.items (λ k e h. c.loop-at.invariant k e (omega arith)))
