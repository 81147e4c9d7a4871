use Rattle.std.proofs.Common.{◌≡◌, take}
use Rattle.menu_list.specs.Lists.{titles_of}
use Rattle.menu_list.proofs.list.MenuList.titles.Given as goal

abbrev pub invariant-loop-listed : goal.invariant-loop-listed
invariant-loop-listed g l = l.titles ≡ titles_of l.self.highlighted (take l.listed-index l.self.menus.items)
