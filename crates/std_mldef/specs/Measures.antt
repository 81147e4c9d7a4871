-- How large a menu is.
use Rattle.std.specs.Prelude.{ℕ, ◌+◌, ◌*◌, List, length, Option, None, Some, pos, max}
use Rattle.std.specs.List.{fold}
use Rattle.strike_font.specs.Text.{text_width}
use Rattle.menu_record.specs.declared.item.MenuItem.{MenuItem}
use Rattle.menu_record.specs.declared.menu.Menu.{Menu}
use Rattle.def_iface.specs.declared.size.Size.{Size}

-- the columns for a key
abbrev pub key_width : Option ℕ → ℕ
key_width None = 0
key_width (Some k) = 24

-- the columns that an item takes: those of its text and 22 more, and those for its key, if it has one
abbrev pub item_width : List ℕ → MenuItem → ℕ
item_width font item = 22 + text_width font item.text + key_width item.key

-- the columns that the widest of items takes
abbrev pub widest : List ℕ → List MenuItem → ℕ
widest font items = fold (λ w item. max (item_width font item) w) 0 items

-- a row of 16 pixels for each item, and the frame around them
unfoldable pub menu_size : List ℕ → Menu → Size
menu_size font menu = record { width = pos (2 + widest font menu.items); height = pos (16 * length menu.items + 2) }
