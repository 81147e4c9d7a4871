-- Menus and their items, and which item can be chosen.
use Rattle.std.specs.Prelude.{ℕ, zero, suc, ◌+◌, Bool, false, not, ◌&&◌, ◌∷◌, List, [], Option, None, slice_get}
use Rattle.std.specs.Str.{bytes_eq}
use Rattle.std.specs.Char.{eq_ignore_ascii_case}
use Rattle.std.specs.List.{position}
use Rattle.std.specs.Option.{option_map, option_map_or}
use Rattle.menu_record.specs.declared.item.MenuItem.{MenuItem}
use Rattle.menu_record.specs.declared.menu.Menu.{Menu}

-- an item whose text is just `-` is a dividing line
abbrev pub is_line : MenuItem → Bool
is_line item = bytes_eq item.text (0x2D ∷ [])

-- this key stands for the item; both cases of a letter are the same key
abbrev pub has_key : ℕ → MenuItem → Bool
has_key key item = option_map_or (λ own. eq_ignore_ascii_case own key) item.key false

-- the item of this menu shows as enabled: both are
abbrev pub is_bright : Menu → MenuItem → Bool
is_bright menu item = menu.enabled && item.enabled

-- the item of this menu can be chosen: it shows as enabled, and is no dividing line
abbrev pub can_choose : Menu → MenuItem → Bool
can_choose menu item = is_bright menu item && not (is_line item)

-- the item of this number, which counts from 1
abbrev pub item_at : ℕ → List MenuItem → Option MenuItem
item_at zero items = None
item_at (suc k) items = slice_get items k

-- the number of the first item, from the top, that can be chosen and for which this key stands
abbrev pub item_with_key : ℕ → Menu → Option ℕ
item_with_key key menu = option_map (λ k. k + 1) (position (λ item. can_choose menu item && has_key key item) menu.items)
