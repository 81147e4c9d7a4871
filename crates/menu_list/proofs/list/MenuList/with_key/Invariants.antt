use Rattle.std.proofs.Common.{◌≡◌, take}
use Rattle.menu_list.specs.Lists.{key_choice}
use Rattle.menu_list.proofs.list.MenuList.with_key.Given as goal

abbrev pub invariant-loop-listed : goal.invariant-loop-listed
invariant-loop-listed g l = l.chosen ≡ key_choice l.key (take l.listed-index l.self.menus.items)
