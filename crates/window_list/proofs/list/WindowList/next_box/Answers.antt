use Rattle.std.proofs.Common.{refl, rules}
use Rattle.window_list.proofs.ListLemmas.{last_removed}
use Rattle.window_list.proofs.list.WindowList.next_box.Goals as goal

pub returns-clause-taken : goal.returns-clause-taken
returns-clause-taken g c = record {
  window = c.remove-taken.result;
  last = rw c.remove-taken.ensures.items (last_removed c.args.self.now.records.items _ c.remove-taken.result (search rules) c.remove-taken.ensures.value);
  its = refl;
}
