-- A menu whose items were changed.
use Rattle.std.specs.Prelude.{ℕ, ℤ, Bool, List, ◌++◌}
use Rattle.menu_record.specs.declared.menu.Menu.{Menu}
use Rattle.menu_record.specs.Appending.{items_of}
use Rattle.menu_record.specs.Edits.{edit_item, with_check, with_text}

-- the menu with the items behind its own that a text gives
abbrev pub with_items_of : List ℕ → Menu → Menu
with_items_of text m = record m { items = m.items ++ items_of text }

-- the menu in which the item of this number, from 1 on, has this text
abbrev pub with_item_text : ℤ → List ℕ → Menu → Menu
with_item_text number text m = record m { items = edit_item (with_text text) number m.items }

-- the menu in which that item has the check mark, or no mark
abbrev pub with_item_checked : ℤ → Bool → Menu → Menu
with_item_checked number checked m = record m { items = edit_item (with_check checked) number m.items }
