use Rattle.std.proofs.Common.{◌≡◌, ◌≤◌, ◌+◌, ◌++◌, length, false, vec_len, vec_capacity}
use Rattle.std.specs.List.{list_any}
use Rattle.menu_record.specs.Appending.{items_of, is_long}
use Rattle.menu_record.proofs.items.push_items.Given as goal

abbrev pub invariant-loop-rest : goal.invariant-loop-rest
invariant-loop-rest l = record {
  items : l.items.items ++ items_of l.rest ≡ l.initial.items.items ++ items_of l.fn.text;
  short : list_any is_long (items_of l.rest) ≡ false;
  room : vec_len l.items + length (items_of l.rest) ≤ vec_capacity l.items;
}

abbrev pub decreases-loop-rest : goal.decreases-loop-rest
decreases-loop-rest l = length l.rest
