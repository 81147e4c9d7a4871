-- Why a call refuses that changes menus as data: the first refusal of the written order whose condition holds.
use Rattle.std.specs.Prelude.{ℤ, pos, ◌+◌, Bool, true, false, not, ◌&&◌, ◌||◌, nat_lt, nat_le, List, [], ◌∷◌, length, is_none, ℕ}
use Rattle.std.specs.Ordering.{int_eq}
use Rattle.std.specs.Option.{option_map_or}
use Rattle.std.specs.List.{list_any}
use Rattle.tb_geom.specs.declared.refusal.Refusal.{Refusal}
use Rattle.tb_geom.specs.declared.refusal.Refusal.TheVariants.{NoSuchItem, NoSuchMenu, OutOfRange, TooLong, TooMany}
use Rattle.menu_record.specs.declared.item.MenuItem.{MenuItem}
use Rattle.menu_record.specs.Appending.{items_of, is_long}
use Rattle.menu_record.specs.Edits.{is_item, is_menu_id}
use Rattle.menu_list.specs.declared.listed.Listed.{Listed}
use Rattle.menu_list.specs.Lists.{is_in_bar, menu_index, menu_with}
use Rattle.desk_call.specs.declared.menu.InsertMenu.{InsertMenu}
use Rattle.desk_call.specs.declared.menu.NewMenu.{NewMenu}
use Rattle.desk_call.specs.declared.menu.MenuCall.{MenuCall}
use Rattle.desk_call.specs.declared.menu.MenuCall.TheVariants.{Append, SetItem, Insert, Delete, Enable, Disable, Check, Hilite}

-- a text is too long
abbrev pub is_long_text : List ℕ → Bool
is_long_text text = nat_lt 255 (length text)

module _ {D : Type 0} where
  -- no menu has this number
  abbrev pub is_no_menu : ℤ → List (Listed D) → Bool
  is_no_menu id menus = is_none (menu_index id menus)

  -- the items of the menu of this number; none where no menu has it
  abbrev pub items_in : ℤ → List (Listed D) → List MenuItem
  items_in id menus = option_map_or (λ (l : Listed D). l.menu.items) (menu_with id menus) []

  -- a menu can not go before one of this number: it is neither none, nor the menu itself, nor one in the menu bar
  abbrev pub is_no_place : InsertMenu → List (Listed D) → Bool
  is_no_place i menus = not (int_eq i.before (pos 0)) && (not (int_eq i.before i.menu) && not (is_in_bar i.before menus))

  -- why a call may be refused that changes menus as data
  abbrev pub edit_refusals : MenuCall → List (Listed D) → List (Bool × Refusal)
  edit_refusals (Append a) menus =
      (is_no_menu a.menu menus, NoSuchMenu)
      ∷ (list_any is_long (items_of a.items), TooLong)
      ∷ (nat_lt 31 (length (items_in a.menu menus) + length (items_of a.items)), TooMany) ∷ []
  edit_refusals (SetItem t) menus =
      (is_no_menu t.menu menus, NoSuchMenu)
      ∷ (not (is_item t.item (items_in t.menu menus)), NoSuchItem)
      ∷ (is_long_text t.text, TooLong) ∷ []
  edit_refusals (Insert i) menus =
      (is_no_menu i.menu menus, NoSuchMenu) ∷ (is_no_place i menus, NoSuchMenu) ∷ (int_eq i.before i.menu, OutOfRange) ∷ []
  edit_refusals (Delete id) menus = (is_no_menu id menus, NoSuchMenu) ∷ []
  edit_refusals (Enable i) menus =
      (is_no_menu i.menu menus, NoSuchMenu)
      ∷ (not (int_eq i.item (pos 0) || is_item i.item (items_in i.menu menus)), NoSuchItem) ∷ []
  edit_refusals (Disable i) menus =
      (is_no_menu i.menu menus, NoSuchMenu)
      ∷ (not (int_eq i.item (pos 0) || is_item i.item (items_in i.menu menus)), NoSuchItem) ∷ []
  edit_refusals (Check c) menus =
      (is_no_menu c.menu menus, NoSuchMenu) ∷ (not (is_item c.item (items_in c.menu menus)), NoSuchItem) ∷ []
  edit_refusals (Hilite id) menus = (not (int_eq id (pos 0)) && is_no_menu id menus, NoSuchMenu) ∷ []
  edit_refusals _ menus = []

  -- why a menu may not be made, whatever the stock holds
  abbrev pub judged_refusals : NewMenu → List (Listed D) → List (Bool × Refusal)
  judged_refusals n menus =
      (not (is_menu_id n.menu) || not (is_no_menu n.menu menus), OutOfRange)
      ∷ (is_long_text n.title, TooLong)
      ∷ (nat_le 16 (length menus), TooMany) ∷ []

-- whether the call may ask for memory: items alone do, and all else has its room from the beginning
abbrev pub may_menu_grow : MenuCall → Bool
may_menu_grow (Append a) = true
may_menu_grow _ = false
