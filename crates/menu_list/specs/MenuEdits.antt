-- What a call leaves of the menus that changes them as data, and what it answers.
use Rattle.std.specs.Prelude.{ℕ, ℤ, true, false, if◌then◌else◌, List, Option, None, Some}
use Rattle.std.specs.Option.{option_and_then, option_map_or}
use Rattle.menu_record.specs.Edits.{set_enabled}
use Rattle.menu_list.specs.declared.listed.Listed.{Listed}
use Rattle.menu_list.specs.Editing.{with_item_checked, with_item_text, with_items_of}
use Rattle.menu_list.specs.Lists.{edit_at, key_choice, menu_index, menu_with, moved_before, with_inserted, with_menu, without_highlight_at}
use Rattle.desk_call.specs.declared.menu.Choice.{Choice}
use Rattle.desk_call.specs.declared.menu.MenuCall.{MenuCall}
use Rattle.desk_call.specs.declared.menu.MenuCall.TheVariants.{Append, SetItem, Insert, Delete, Enable, Disable, Check, Key, Hilite}
use Rattle.desk_call.specs.declared.menu.MenuReply.{MenuReply}
use Rattle.desk_call.specs.declared.menu.MenuReply.TheVariants.{Done, Chosen}

-- the title that is highlighted once a key was pressed: that of the menu of the chosen item, or the one that was
abbrev pub highlighted_by : Option Choice → Option ℕ → Option ℕ
highlighted_by None was = was
highlighted_by (Some choice) was = Some choice.menu

module _ {D : Type 0} where
  -- the menus with f of the one of this number in its place; as they were where none has the number
  abbrev pub edited : (Listed D → Listed D) → ℤ → List (Listed D) → List (Listed D)
  edited f id menus = option_map_or (λ at. edit_at f at menus) (menu_index id menus) menus

  -- the menus, where the one of the first number is in the menu bar before that of the second, or at the right end
  abbrev pub inserted : ℤ → ℤ → List (Listed D) → List (Listed D)
  inserted id before menus = option_map_or (λ at. moved_before before at menus) (menu_index id menus) menus

  -- the number of the menu, if it is in the menu bar
  abbrev pub title_number : Listed D → Option ℕ
  title_number l = if l.inserted then Some l.menu.id else None

  -- the menus after a call
  abbrev pub menus_after : MenuCall → List (Listed D) → List (Listed D)
  menus_after (Append a) menus = edited (with_menu (with_items_of a.items)) a.menu menus
  menus_after (SetItem t) menus = edited (with_menu (with_item_text t.item t.text)) t.menu menus
  menus_after (Insert i) menus = inserted i.menu i.before menus
  menus_after (Delete id) menus = edited (with_inserted false) id menus
  menus_after (Enable i) menus = edited (with_menu (set_enabled i.item true)) i.menu menus
  menus_after (Disable i) menus = edited (with_menu (set_enabled i.item false)) i.menu menus
  menus_after (Check c) menus = edited (with_menu (with_item_checked c.item c.checked)) c.menu menus
  menus_after _ menus = menus

  -- the number of the menu whose title is highlighted after a call
  abbrev pub highlight_after : MenuCall → List (Listed D) → Option ℕ → Option ℕ
  highlight_after (Delete id) menus was = option_map_or (λ at. without_highlight_at at menus was) (menu_index id menus) was
  highlight_after (Key key) menus was = highlighted_by (key_choice key menus) was
  highlight_after (Hilite id) menus was = option_and_then title_number (menu_with id menus)
  highlight_after _ menus was = was

  -- what a call answers
  abbrev pub answer_to : MenuCall → List (Listed D) → MenuReply
  answer_to (Key key) menus = Chosen (key_choice key menus)
  answer_to _ menus = Done
