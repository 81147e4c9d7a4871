use Rattle.std.proofs.Common.{◌≡◌, ◌≤◌, ◌+◌, length}
use Rattle.std.specs.List.{list_any}
use Rattle.menu_record.specs.Appending.{items_of, is_long}
use Rattle.menu_record.proofs.reading.count_items.Given as goal

abbrev pub invariant-loop-rest : goal.invariant-loop-rest
invariant-loop-rest l = record {
  count : length (items_of l.fn.text) ≡ l.count + length (items_of l.rest);
  long : list_any is_long (items_of l.fn.text) ≡ list_any is_long (items_of l.rest);
  few : l.count + length l.rest ≤ length l.fn.text;
}

abbrev pub decreases-loop-rest : goal.decreases-loop-rest
decreases-loop-rest l = length l.rest
