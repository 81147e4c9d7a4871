-- The menus of a desk as plain data, beside its windows.
use Rattle.std.specs.Prelude.{◌≡◌, ℕ, List, Option}
use Rattle.def_iface.specs.MenuMeaning.{MenuDefinition, MenuLoan}
use Rattle.def_iface.specs.Slots.{SlotOf}
use Rattle.menu_list.specs.declared.listed.Listed.{Listed}
use Rattle.menu_list.specs.Lists.{titles_of}
use Rattle.window_mgr.specs.FullDesk.{FullDesk}
use Rattle.window_mgr.specs.DeskStates.{DeskState, IsDeskUnchanged}

-- the slots of the menus' definitions, as the stock holds them
abbrev pub MenuSlot : Type 0
MenuSlot = SlotOf MenuDefinition

-- a menu, whether it is in the menu bar, and its definition with the number of its slot
abbrev pub MenuRecord : Type 0
MenuRecord = Listed MenuLoan

-- the menus, of which those in the menu bar stand as there, from left to right; the number of the one whose title is
-- highlighted; and what the stock holds for menus
pub record MenusState : Type 0 where
  pub menus : List MenuRecord
  pub highlighted : Option ℕ
  pub stock : List MenuSlot

-- the menu bar has the titles of the menus that are in it, and the one is highlighted that is to be
abbrev pub IsBarOf : MenusState → FullDesk → Type 0
IsBarOf menus desk = desk.bar.titles ≡ titles_of menus.highlighted menus.menus

-- a desk with its menus
pub record MenuDesk : Type 0 where
  pub desk : DeskState
  pub menus : MenusState

-- nothing changed
pub record IsMenuDeskUnchanged (before after : MenuDesk) : Type 0 where
  pub desk : IsDeskUnchanged before.desk after.desk
  pub menus : after.menus ≡ before.menus
