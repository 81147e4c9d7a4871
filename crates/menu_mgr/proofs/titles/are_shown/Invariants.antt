use Rattle.std.proofs.Common.{◌≡◌, ◌≤◌, length, take}
use Rattle.menu_list.specs.Lists.{titles_of}
use Rattle.menu_mgr.proofs.titles.are_shown.Given as goal

abbrev pub invariant-loop-listed : goal.invariant-loop-listed
invariant-loop-listed g l = record {
  few : l.at ≤ length l.titles;
  same : take l.at l.titles ≡ titles_of l.list.highlighted (take l.listed-index l.list.menus.items);
}
